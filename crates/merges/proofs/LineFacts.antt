-- What the values of the options say.
use Rattle.std.proofs.Common.{◌≡◌, ◌∙◌, ◌<◌, ◌^◌, ℕ, List, length, map, Option, None, Some, Bor, sym, ap, refl}
use Rattle.std.specs.Prelude.{nat_lt, option_map, unwrap_or}
use Rattle.std.specs.Bool.{Decides}
use Rattle.std.proofs.lemmas.Bool.Decides.{Decides-and, Decides-ltb}
use Rattle.std.proofs.lemmas.List.{length-map, length-replicate}
use Rattle.clap.specs.Words.{Text}
use Rattle.merges.specs.Copies.{AreCopiesOf}
use Rattle.merges.specs.Lines.{is_file_count}
use Rattle.rj_shards.specs.Copies.{single}
use Rattle.rj_shards.specs.declared.merge.copies.Copies.{Copies}

-- the value of an option, as it is seen, or its default
pub value_or : {X Y : Type 0} (seen : X → Y) (v : Option Y) (o : Option X) (u d : X) (n : Y) → option_map seen o ≡ v → u ≡ unwrap_or o d → seen d ≡ n → seen u ≡ unwrap_or v n
value_or {X} {Y} seen v o u d n is got default = ap seen got ∙ (shown o ∙ ap (λ x. unwrap_or x n) is)
  where
    shown : (o : Option X) → seen (unwrap_or o d) ≡ unwrap_or (option_map seen o) n
    shown None = default
    shown (Some x) = refl

-- so many files can be merged
pub count-Decides : (n : ℕ) → Decides (is_file_count n) ((0 < n) × (n < 2 ^ 32))
count-Decides n = Decides-and (nat_lt 0 n) (nat_lt n (2 ^ 32)) (Decides-ltb 0 n) (Decides-ltb n (2 ^ 32))

pub names-length : (names : List (Bor Text)) (files : List Text) → map (λ (f : Bor Text). f.now) names ≡ files → length names ≡ length files
names-length names files is = sym (length-map names (λ (f : Bor Text). f.now)) ∙ ap length is

-- each file has its copies
pub copies-length : (list : Option Text) (files : ℕ) (all : List Copies) → AreCopiesOf list files all → length all ≡ files
copies-length None files all is = ap length is ∙ length-replicate files single
copies-length (Some list) files all is = is.1
