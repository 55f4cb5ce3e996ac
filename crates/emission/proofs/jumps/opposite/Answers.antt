-- Case by case.
use Rattle.emission.proofs.jumps.opposite.Goals as goal

pub returns-in-Eq : goal.returns-in-Eq
returns-in-Eq c = rw c.in-Eq.is

pub returns-in-Ne : goal.returns-in-Ne
returns-in-Ne c = rw c.in-Ne.is

pub returns-in-Lt : goal.returns-in-Lt
returns-in-Lt c = rw c.in-Lt.is

pub returns-in-Ge : goal.returns-in-Ge
returns-in-Ge c = rw c.in-Ge.is

pub returns-in-Ltu : goal.returns-in-Ltu
returns-in-Ltu c = rw c.in-Ltu.is

pub returns-in-Geu : goal.returns-in-Geu
returns-in-Geu c = rw c.in-Geu.is
