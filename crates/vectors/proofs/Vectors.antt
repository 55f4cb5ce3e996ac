-- Document 01 §6 holds of its texts: the checker computes each verdict, and claim 3 has the panel's part.
use mathlib.Core.Path.{refl}
use Rattle.vectors.specs.Vectors.{lines, times, Vectors}
use Rattle.vectors.proofs.Endless.{never_stops}
use Rattle.vectors.proofs.Judge.{judge, unreadable, broken, does}

pub vectors : Vectors
unfolding lines times judge
vectors =
    record { g_bytes = refl; g_runs = does refl; z_quiet = does refl; z_one = does refl; z_two = does refl; row_nothing = does refl; row_emit = does refl; row_trap_1 = does refl; row_division = does refl; row_wraps = does refl; row_trap_2 = does refl; row_order = does refl; row_index_last = does refl; row_62 = does refl; row_63 = does refl; row_endless = does refl; row_endless_panel = never_stops; too_large = unreadable refl; padded = unreadable refl; letter_after_number = unreadable refl; name_of_33 = unreadable refl; compared_twice = unreadable refl; parentheses_32 = unreadable refl; parentheses_31 = does refl; upper_case = unreadable refl; no_main = broken refl; hiding = broken refl; let_of_itself = broken refl; ordered_truths = broken refl; no_index = broken refl; falls_off = broken refl; falls_through = broken refl; equal_truths = does refl; minus_minus = does refl }
