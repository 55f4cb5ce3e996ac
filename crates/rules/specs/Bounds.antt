-- Bounds on what is lent: more entries than any table has, more than any place, and more words than any tree has.
use Rattle.std.specs.Prelude.{ℕ}

abbrev pub most_entries : ℕ
most_entries = 65536

abbrev pub most_places : ℕ
most_places = 17179869184

abbrev pub most_words : ℕ
most_words = 67108864
