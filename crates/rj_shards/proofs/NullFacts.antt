-- The text that is written for null, among lawful ones.
use Rattle.std.proofs.Common.{◌≡◌, ℕ, List, [], ◌∷◌, true, refl}
use Rattle.std.specs.List.{list_all}
use Rattle.std.proofs.lemmas.Bool.{and_parts}
use Rattle.rj_csv_io.specs.Tables.{are_null_texts, is_null_text}
use Rattle.rj_shards.specs.Divisions.{written_null}

pub written_lawful : (nulls : List (List ℕ)) → are_null_texts nulls ≡ true → is_null_text (written_null nulls) ≡ true
written_lawful [] h = refl
written_lawful (n ∷ nulls) h = (and_parts (is_null_text n) (list_all is_null_text nulls) h).0
