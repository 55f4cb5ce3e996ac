-- How the K steps that a unit of fuel pays for are shared out. A node's own code takes few of them; a call takes nearly all.
use Prim.Native.Nat.{ℕ}

-- What an activation takes besides its body: the test for room, the return address, up to 64 lets cleared, and the return.
abbrev pub activation_steps : ℕ
activation_steps = 72

-- What a call takes besides its arguments' code and the body: up to eight arguments passed and seven registers saved, then what entering takes: the
-- jump, the activation, the registers loaded.
abbrev pub entering_steps : ℕ
entering_steps = 84

abbrev pub calling_steps : ℕ
calling_steps = 116

-- What code leaves unspent of a unit, for what follows it with no unit of its own, as the jump back of a loop: that of a value, and that of a
-- condition or an answer, which bring a value where it is wanted.
abbrev pub value_spare : ℕ
value_spare = 8

abbrev pub answer_spare : ℕ
answer_spare = 4

-- What is there for a node's own code once its operands are done; for the second side of `&&` and `||`, and what joins it to the first; and for a call
-- once its arguments are done.
abbrev pub own_steps : ℕ
own_steps = 64

abbrev pub side_steps : ℕ
side_steps = 96

abbrev pub call_share : ℕ
call_share = 120
