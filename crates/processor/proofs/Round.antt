-- decode_of and encode_of undo one another.
use Prim.Native.Nat.{ℕ, ◌+◌, ◌*◌, ◌/◌, ◌%◌, ◌^◌, ◌<◌}
use mathlib.Core.Path.{◌≡◌, refl, sym, ◌∙◌, ap, subst}
use mathlib.Core.Bool.{Bool, true, false}
use mathlib.Core.Option.{Option, none, some}
use native.Mathlib.Omega.{arith}
use native.Mathlib.Nat.{mod-eq_of_lt}
use lib.Dec.{eqb}
use borrow.Author.Tests.{eqb-true}
use lib.Arith.{digits_div, digits_mod}
use Rattle.word.specs.Choice.{pick}
use Rattle.processor.specs.declared.Instr.{Instr}
use Rattle.processor.specs.declared.Instr.TheVariants.{Lui, Auipc, Jal, Jalr, Branch, Load, Store, OpImm, Shift, Op, Fence, Ecall, Ebreak, Unknown}
use Rattle.processor.specs.Formats.{bits, low, funct7, rs2, rs1, funct3, rd, opcode, imm_i, imm_s, imm_b, imm_u, imm_j, r_word, i_word, s_word, b_word, u_word, j_word}
use Rattle.processor.specs.Instructions.{key, find, found, alu_key, cond_key, width_key, operations, immediates, shifts, branches, loads, stores, decode_jalr, decode_branch, decode_load, decode_store, decode_shift, decode_op_imm, decode_op, decode_fence, decode_system, decode_of, encode_of, Extended, Even, Upper, WellFormed}
use Rattle.processor.proofs.Fields.{Fields, r_fields, r_exact, r_whole, UFields, u_fields, u_whole}
use Rattle.processor.proofs.ImmediateBits.{column, imm_b_is, imm12_of, imm13_of, imm21_of, imm_j_is, Imm12, imm12, Imm13, imm13, Imm21, imm21, column_parts, column_whole}
use Rattle.processor.proofs.Tables

-- The word of an instruction is that instruction.

-- the columns of each format's word

i_fields : (n a t d o : ℕ) → a < 32 → t < 8 → d < 32 → o < 128 → Fields (i_word n a t d o) (bits 11 5 n) (low 5 n) a t d o
unfolding i_word
i_fields n a t d o ha ht hd ho = r_exact (bits 11 5 n) (low 5 n) a t d o (omega arith) (omega arith) ha ht hd ho

s_fields : (n b a t o : ℕ) → b < 32 → a < 32 → t < 8 → o < 128 → Fields (s_word n b a t o) (bits 11 5 n) b a t (low 5 n) o
unfolding s_word
s_fields n b a t o hb ha ht ho = r_exact (bits 11 5 n) b a t (low 5 n) o (omega arith) hb ha ht (omega arith) ho

b_fields : (n b a t o : ℕ) → b < 32 → a < 32 → t < 8 → o < 128
    → Fields (b_word n b a t o) (bits 12 12 n * 2 ^ 6 + bits 10 5 n) b a t (bits 4 1 n * 2 ^ 1 + bits 11 11 n) o
unfolding b_word
b_fields n b a t o hb ha ht ho =
    r_exact (bits 12 12 n * 2 ^ 6 + bits 10 5 n) b a t (bits 4 1 n * 2 ^ 1 + bits 11 11 n) o (omega arith) hb ha ht (omega arith) ho

j_fields : (n d o : ℕ) → d < 32 → o < 128 → UFields (j_word n d o) (column (bits 20 20 n) (bits 19 12 n) (bits 11 11 n) (bits 10 1 n)) d o
unfolding j_word
j_fields n d o hd ho =
    let C = column_parts (bits 20 20 n) (bits 19 12 n) (bits 11 11 n) (bits 10 1 n) (omega arith) (omega arith) (omega arith) (omega arith) in
    let F = u_fields (column (bits 20 20 n) (bits 19 12 n) (bits 11 11 n) (bits 10 1 n) * 2 ^ 12) d o in
    record {
      u_is = F.u_is ∙ up _ C.small;
      d_is = F.d_is ∙ mod-eq_of_lt hd;
      o_is = F.o_is ∙ mod-eq_of_lt ho;
      small = F.small;
    }
  where
    up : (u : ℕ) → u < 2 ^ 20 → bits 31 12 (u * 2 ^ 12) ≡ u
    up u h = omega arith

-- the immediate that those columns hold

i_imm : (w n : ℕ) → funct7 w ≡ bits 11 5 n → rs2 w ≡ low 5 n → Extended 12 n → imm_i w ≡ n
unfolding imm_i
i_imm w n pf pb h = rw (pf, pb) (imm12_of n h)

s_imm : (w n : ℕ) → funct7 w ≡ bits 11 5 n → rd w ≡ low 5 n → Extended 12 n → imm_s w ≡ n
unfolding imm_s
s_imm w n pf pd h = rw (pf, pd) (imm12_of n h)

b_imm : (w n : ℕ) → funct7 w ≡ bits 12 12 n * 2 ^ 6 + bits 10 5 n → rd w ≡ bits 4 1 n * 2 ^ 1 + bits 11 11 n → Extended 13 n → Even n → imm_b w ≡ n
b_imm w n pf pd h even =
    imm_b_is w
    ∙ rw (
      pf,
      pd,
      digits_div (bits 12 12 n) {m = 64} {r = bits 10 5 n} (omega arith),
      digits_mod (bits 12 12 n) {m = 64} {r = bits 10 5 n} (omega arith),
      digits_div (bits 4 1 n) {m = 2} {r = bits 11 11 n} (omega arith),
      digits_mod (bits 4 1 n) {m = 2} {r = bits 11 11 n} (omega arith),
      mod-eq_of_lt {n = bits 12 12 n} {m = 2} (omega arith),
      mod-eq_of_lt {n = bits 4 1 n} {m = 16} (omega arith),
    )
    (imm13_of n h even)

j_imm : (w n : ℕ) → bits 31 12 w ≡ column (bits 20 20 n) (bits 19 12 n) (bits 11 11 n) (bits 10 1 n) → Extended 21 n → Even n → imm_j w ≡ n
j_imm w n pu h even =
    let C = column_parts (bits 20 20 n) (bits 19 12 n) (bits 11 11 n) (bits 10 1 n) (omega arith) (omega arith) (omega arith) (omega arith) in
    imm_j_is w ∙ rw (pu, C.a_is, C.b_is, C.c_is, C.d_is) (imm21_of n h even)

u_imm : (n d o : ℕ) → Upper n → imm_u (u_word n d o) ≡ n
unfolding imm_u
u_imm n d o h = rw (u_fields n d o).u_is (whole n h)
  where
    whole : (n : ℕ) → Upper n → bits 31 12 n * 2 ^ 12 ≡ n
    whole n h = omega arith

-- funct7 and funct3 of an operation
key_whole : (k : ℕ) → key (k % 8) (k / 8) ≡ k
key_whole k = omega arith

pub decode_encode : (i : Instr) → WellFormed i → decode_of (encode_of i) ≡ i
unfolding decode_of encode_of WellFormed decode_jalr decode_branch decode_load decode_store decode_shift decode_op_imm decode_op decode_fence decode_system
decode_encode (Lui d n) h = let F = u_fields n d 0x37 in rw (F.o_is, F.d_is, mod-eq_of_lt h.0, u_imm n d 0x37 h.1)
decode_encode (Auipc d n) h = let F = u_fields n d 0x17 in rw (F.o_is, F.d_is, mod-eq_of_lt h.0, u_imm n d 0x17 h.1)
decode_encode (Jal d n) h =
    let F = j_fields n d 0x6f h.0 (omega arith) in
    rw (F.o_is, F.d_is, j_imm _ n F.u_is h.1 h.2)
decode_encode (Jalr d a n) h =
    let F = i_fields n a 0 d 0x67 h.1 (omega arith) h.0 (omega arith) in
    rw (F.o_is, F.t_is, F.d_is, F.a_is, i_imm _ n F.f_is F.b_is h.2)
decode_encode (Branch c a b n) h =
    let F = b_fields n b a (cond_key c) 0x63 h.1 h.0 (Tables.branch_small c) (omega arith) in
    rw (F.o_is, F.t_is, Tables.branch_found c, F.a_is, F.b_is, b_imm _ n F.f_is F.d_is h.2 h.3)
decode_encode (Load s d a n) h =
    let F = i_fields n a (width_key s) d 0x03 h.1 (Tables.width_small s) h.0 (omega arith) in
    rw (F.o_is, F.t_is, Tables.load_found s, F.d_is, F.a_is, i_imm _ n F.f_is F.b_is h.2)
decode_encode (Store s a b n) h =
    let F = s_fields n b a (width_key s) 0x23 h.2 h.1 (Tables.width_small s) (omega arith) in
    rw (F.o_is, F.t_is, h.0, F.a_is, F.b_is, s_imm _ n F.f_is F.d_is h.3)
decode_encode (OpImm o d a n) h =
    let F = i_fields n a (alu_key o) d 0x13 h.2 (Tables.immediate_small o h.0) h.1 (omega arith) in
    rw (F.o_is, F.t_is, h.0, F.d_is, F.a_is, i_imm _ n F.f_is F.b_is h.3)
decode_encode (Shift o d a b) h =
    let F = r_exact (alu_key o / 8) b a (alu_key o % 8) d 0x13 (let s = Tables.operation_small o in omega arith) h.3 h.2 (omega arith) h.1 (omega arith) in
    rw (F.o_is, F.t_is, F.f_is, Tables.shift_apart o h.0, key_whole (alu_key o), h.0, F.d_is, F.a_is, F.b_is)
decode_encode (Op o d a b) h =
    let F = r_exact (alu_key o / 8) b a (alu_key o % 8) d 0x33 (let s = Tables.operation_small o in omega arith) h.2 h.1 (omega arith) h.0 (omega arith) in
    rw (F.o_is, F.t_is, F.f_is, key_whole (alu_key o), Tables.operation_found o, F.d_is, F.a_is, F.b_is)
decode_encode (Fence d a n) h =
    let F = i_fields n a 0 d 0x0f h.1 (omega arith) h.0 (omega arith) in
    rw (F.o_is, F.t_is, F.d_is, F.a_is, i_imm _ n F.f_is F.b_is h.2)
decode_encode Ecall h = refl
decode_encode Ebreak h = refl
decode_encode Unknown h = absurd h

-- A word that is an instruction is the word of it.

pub record Says (w : ℕ) (i : Instr) : Type 0 where
  pub word : encode_of i ≡ w
  pub fine : WellFormed i

abbrev Known : Instr → Type 0
Known i = i ≡ Unknown → ⊥

-- by a test, and by what is found in a table

by_test : (w : ℕ) (x : Bool) (i j : Instr) → (x ≡ true → Known i → Says w i) → (Known j → Says w j) → Known (pick x i j) → Says w (pick x i j)
by_test w true i j f g h = f refl h
by_test w false i j f g h = g h

by_entry : {A : Type 0} (w : ℕ) (x : Option A) (f : A → Instr) (j : Instr) → ((a : A) → x ≡ some a → Says w (f a)) → (Known j → Says w j) → Known (found x f j) → Says w (found x f j)
by_entry w none f j g k h = k h
by_entry w (some a) f j g k h = g a refl

not_known : (w : ℕ) → Known Unknown → Says w Unknown
not_known w h = absurd (h refl)

module _ (w : ℕ) (fits : w < 2 ^ 32) where
  i_is : Imm12 (funct7 w) (rs2 w) (imm_i w)
  unfolding imm_i
  i_is = imm12 (funct7 w) (rs2 w) (omega arith) (omega arith)

  s_is : Imm12 (funct7 w) (rd w) (imm_s w)
  unfolding imm_s
  s_is = imm12 (funct7 w) (rd w) (omega arith) (omega arith)

  b_is : Imm13 (funct7 w / 2 ^ 6 % 2 ^ 1) (rd w % 2 ^ 1) (funct7 w % 2 ^ 6) (rd w / 2 ^ 1 % 2 ^ 4) (imm_b w)
  b_is = rw (imm_b_is w) (imm13 (funct7 w / 2 ^ 6 % 2 ^ 1) (rd w % 2 ^ 1) (funct7 w % 2 ^ 6) (rd w / 2 ^ 1 % 2 ^ 4) (omega arith) (omega arith) (omega arith) (omega arith))

  j_is : Imm21 (bits 31 12 w / 2 ^ 19 % 2 ^ 1) (bits 31 12 w % 2 ^ 8) (bits 31 12 w / 2 ^ 8 % 2 ^ 1) (bits 31 12 w / 2 ^ 9 % 2 ^ 10) (imm_j w)
  j_is = rw (imm_j_is w) (imm21 (bits 31 12 w / 2 ^ 19 % 2 ^ 1) (bits 31 12 w % 2 ^ 8) (bits 31 12 w / 2 ^ 8 % 2 ^ 1) (bits 31 12 w / 2 ^ 9 % 2 ^ 10) (omega arith) (omega arith) (omega arith) (omega arith))

  -- the word of each format, by its opcode and funct3

  r_word_lem : (k o : ℕ) → k ≡ key (funct3 w) (funct7 w) → o ≡ opcode w → r_word (k / 8) (rs2 w) (rs1 w) (k % 8) (rd w) o ≡ w
  r_word_lem k o pk po = rw (pk, po, high (funct3 w) (funct7 w) (omega arith), rest (funct3 w) (funct7 w) (omega arith)) (r_whole w fits)
    where
      high : (t f : ℕ) → t < 8 → key t f / 8 ≡ f
      high t f h = omega arith

      rest : (t f : ℕ) → t < 8 → key t f % 8 ≡ t
      rest t f h = omega arith

  i_word_lem : (t o : ℕ) → t ≡ funct3 w → o ≡ opcode w → i_word (imm_i w) (rs1 w) t (rd w) o ≡ w
  unfolding i_word
  i_word_lem t o pt po = rw (i_is.high, i_is.rest, pt, po) (r_whole w fits)

  s_word_lem : (t o : ℕ) → t ≡ funct3 w → o ≡ opcode w → s_word (imm_s w) (rs2 w) (rs1 w) t o ≡ w
  unfolding s_word
  s_word_lem t o pt po = rw (s_is.high, s_is.rest, pt, po) (r_whole w fits)

  b_word_lem : (t o : ℕ) → t ≡ funct3 w → o ≡ opcode w → b_word (imm_b w) (rs2 w) (rs1 w) t o ≡ w
  unfolding b_word
  b_word_lem t o pt po =
      rw (b_is.a_is, b_is.b_is, b_is.c_is, b_is.d_is, pt, po, high (funct7 w) (omega arith), rest (rd w) (omega arith)) (r_whole w fits)
    where
      high : (f : ℕ) → f < 128 → f / 2 ^ 6 % 2 ^ 1 * 2 ^ 6 + f % 2 ^ 6 ≡ f
      high f h = omega arith

      rest : (d : ℕ) → d < 32 → d / 2 ^ 1 % 2 ^ 4 * 2 ^ 1 + d % 2 ^ 1 ≡ d
      rest d h = omega arith

  u_word_lem : (o : ℕ) → o ≡ opcode w → u_word (imm_u w) (rd w) o ≡ w
  unfolding imm_u
  u_word_lem o po = rw po (u_whole w fits)

  j_word_lem : (o : ℕ) → o ≡ opcode w → j_word (imm_j w) (rd w) o ≡ w
  unfolding j_word
  j_word_lem o po =
      rw (j_is.a_is, j_is.b_is, j_is.c_is, j_is.d_is, po, column_whole (bits 31 12 w) (omega arith)) (u_whole w fits)

  u_upper : Upper (imm_u w)
  unfolding imm_u
  u_upper = (omega arith, omega arith)

  -- each row of the table

  jalr_row : 0x67 ≡ opcode w → Known (decode_jalr w) → Says w (decode_jalr w)
  unfolding decode_jalr encode_of WellFormed
  jalr_row o h =
      by_test w _ _ Unknown
      (λ t k. record { word = i_word_lem 0 0x67 (sym (eqb-true _ _ t)) o; fine = (omega arith, omega arith, i_is.fine) })
      (not_known w) h

  branch_row : 0x63 ≡ opcode w → Known (decode_branch w) → Says w (decode_branch w)
  unfolding decode_branch encode_of WellFormed
  branch_row o h =
      by_entry w (find cond_key branches (funct3 w)) _ Unknown
      (λ c p. record { word = b_word_lem (cond_key c) 0x63 (Tables.found_number cond_key branches _ c p) o; fine = (omega arith, omega arith, b_is.fine, b_is.even) })
      (not_known w) h

  load_row : 0x03 ≡ opcode w → Known (decode_load w) → Says w (decode_load w)
  unfolding decode_load encode_of WellFormed
  load_row o h =
      by_entry w (find width_key loads (funct3 w)) _ Unknown
      (λ s p. record { word = i_word_lem (width_key s) 0x03 (Tables.found_number width_key loads _ s p) o; fine = (omega arith, omega arith, i_is.fine) })
      (not_known w) h

  store_row : 0x23 ≡ opcode w → Known (decode_store w) → Says w (decode_store w)
  unfolding decode_store encode_of WellFormed
  store_row o h =
      by_entry w (find width_key stores (funct3 w)) _ Unknown
      (λ s p. record { word = s_word_lem (width_key s) 0x23 (Tables.found_number width_key stores _ s p) o; fine = (Tables.found_among width_key stores (funct3 w) s p, omega arith, omega arith, s_is.fine) })
      (not_known w) h

  shift_row : 0x13 ≡ opcode w → Known (decode_shift w) → Says w (decode_shift w)
  unfolding decode_shift encode_of WellFormed
  shift_row o h =
      by_entry w (find alu_key shifts (key (funct3 w) (funct7 w))) _ Unknown
      (λ s p. record { word = r_word_lem (alu_key s) 0x13 (Tables.found_number alu_key shifts _ s p) o; fine = (Tables.found_among alu_key shifts (key (funct3 w) (funct7 w)) s p, omega arith, omega arith, omega arith) })
      (not_known w) h

  op_imm_row : 0x13 ≡ opcode w → Known (decode_op_imm w) → Says w (decode_op_imm w)
  unfolding decode_op_imm encode_of WellFormed
  op_imm_row o h =
      by_entry w (find alu_key immediates (funct3 w)) _ (decode_shift w)
      (λ s p. record { word = i_word_lem (alu_key s) 0x13 (Tables.found_number alu_key immediates _ s p) o; fine = (Tables.found_among alu_key immediates (funct3 w) s p, omega arith, omega arith, i_is.fine) })
      (shift_row o) h

  op_row : 0x33 ≡ opcode w → Known (decode_op w) → Says w (decode_op w)
  unfolding decode_op encode_of WellFormed
  op_row o h =
      by_entry w (find alu_key operations (key (funct3 w) (funct7 w))) _ Unknown
      (λ s p. record { word = r_word_lem (alu_key s) 0x33 (Tables.found_number alu_key operations _ s p) o; fine = (omega arith, omega arith, omega arith) })
      (not_known w) h

  fence_row : 0x0f ≡ opcode w → Known (decode_fence w) → Says w (decode_fence w)
  unfolding decode_fence encode_of WellFormed
  fence_row o h =
      by_test w _ _ Unknown
      (λ t k. record { word = i_word_lem 0 0x0f (sym (eqb-true _ _ t)) o; fine = (omega arith, omega arith, i_is.fine) })
      (not_known w) h

  system_row : Known (decode_system w) → Says w (decode_system w)
  unfolding decode_system encode_of WellFormed
  system_row h =
      by_test w _ Ecall _ (λ t k. record { word = sym (eqb-true _ _ t); fine = tt })
      (by_test w _ Ebreak Unknown (λ t k. record { word = sym (eqb-true _ _ t); fine = tt }) (not_known w)) h

  by_opcode : (o : ℕ) (i j : Instr) → (o ≡ opcode w → Known i → Says w i) → (Known j → Says w j) → Known (pick (eqb (opcode w) o) i j) → Says w (pick (eqb (opcode w) o) i j)
  by_opcode o i j f g h = by_test w (eqb (opcode w) o) i j (λ e. f (sym (eqb-true _ _ e))) g h

  pub encode_decode : Known (decode_of w) → Says w (decode_of w)
  unfolding decode_of encode_of WellFormed
  encode_decode =
      by_opcode 0x37 _ _ (λ o k. record { word = u_word_lem 0x37 o; fine = (omega arith, u_upper) })
      (by_opcode 0x17 _ _ (λ o k. record { word = u_word_lem 0x17 o; fine = (omega arith, u_upper) })
      (by_opcode 0x6f _ _ (λ o k. record { word = j_word_lem 0x6f o; fine = (omega arith, j_is.fine, j_is.even) })
      (by_opcode 0x67 _ _ jalr_row
      (by_opcode 0x63 _ _ branch_row
      (by_opcode 0x03 _ _ load_row
      (by_opcode 0x23 _ _ store_row
      (by_opcode 0x13 _ _ op_imm_row
      (by_opcode 0x33 _ _ op_row
      (by_opcode 0x0f _ _ fence_row
      (by_opcode 0x73 _ Unknown (λ o. system_row)
      (not_known w)))))))))))

-- Every encoding is a word.
pub encode_small : (i : Instr) → encode_of i < 2 ^ 32
unfolding encode_of i_word s_word b_word j_word
encode_small (Lui d n) = (u_fields n d 0x37).small
encode_small (Auipc d n) = (u_fields n d 0x17).small
encode_small (Jal d n) = (u_fields _ d 0x6f).small
encode_small (Jalr d a n) = (r_fields _ _ a 0 d 0x67).small
encode_small (Branch c a b n) = (r_fields _ b a (cond_key c) _ 0x63).small
encode_small (Load s d a n) = (r_fields _ _ a (width_key s) d 0x03).small
encode_small (Store s a b n) = (r_fields _ b a (width_key s) _ 0x23).small
encode_small (OpImm o d a n) = (r_fields _ _ a (alu_key o) d 0x13).small
encode_small (Shift o d a b) = (r_fields _ b a _ d 0x13).small
encode_small (Op o d a b) = (r_fields _ b a _ d 0x33).small
encode_small (Fence d a n) = (r_fields _ _ a 0 d 0x0f).small
encode_small Ecall = omega arith
encode_small Ebreak = omega arith
encode_small Unknown = omega arith

-- The same of an instruction that is known to be the decoded one.

pub says : (w : ℕ) → w < 2 ^ 32 → (r : Instr) → r ≡ decode_of w → (r ≡ Unknown → ⊥) → Says w r
says w h r e k = subst (Says w) (sym e) (encode_decode w h (λ u. k (e ∙ u)))

pub only : (w : ℕ) (r : Instr) → r ≡ decode_of w → (i : Instr) → WellFormed i → encode_of i ≡ w → r ≡ i
only w r e i h p = e ∙ ap decode_of (sym p) ∙ decode_encode i h
