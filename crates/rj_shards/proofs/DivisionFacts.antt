-- Divisions that follow each other.
use Rattle.std.proofs.Common.{◌≡◌, ◌<◌, ◌+◌, ℕ, suc, List, [], ◌∷◌, ◌++◌, Option, None, Err, refl, sym, ap, ◌∙◌, arith, length, map, get_or, add-zero}
use Rattle.std.specs.Prelude.{filter, ◌==◌}
use Rattle.std.proofs.KnownBytes.{Appends-nil, Appends-trans}
use Rattle.std.proofs.lemmas.Grind.{flat_map-append}
use Rattle.std.proofs.lemmas.List.{length-append, map-append}
use Rattle.std.proofs.lemmas.List.Concat.{flat_map-cons}
use Rattle.std.proofs.lemmas.List.Elements.{filter-append}
use Rattle.std.specs.List.{flat_map}
use Rattle.csv.specs.Writing.{row_text}
use Rattle.rj_columns.specs.Contents.{Content}
use Rattle.rj_csv_io.specs.Shown.{rows_text, shown, writer_of}
use Rattle.rj_csv_io.specs.Grammar.{comma}
use Rattle.rj_shards.specs.Divisions.{Dividing, IsDivided, IsPartDivided, after_rows, counts_after, part_text, written_null}
use Rattle.rj_shards.specs.declared.division.refused.DivideRefused.{DivideRefused}
use Rattle.rj_shards.specs.declared.division.refused.DivideRefused.TheVariants as refused
use Rattle.rj_shards.specs.Readings.{IsAfterReading, IsReadingFault, reads_after}
use Rattle.rj_shards.specs.Placed.{part_rows, placed, with_place}
use Rattle.rj_shards.proofs.ReadingFacts.{rows-append}

-- the text of records has their texts one after another
rows_text-flat : (xs : List (List (List ℕ))) → rows_text comma xs ≡ flat_map (row_text (writer_of comma)) xs
unfolding rows_text
rows_text-flat [] = refl
rows_text-flat (x ∷ xs) = ap (λ t. row_text (writer_of comma) x ++ t) (rows_text-flat xs) ∙ sym (flat_map-cons (row_text (writer_of comma)) x xs)

placed-append : (first : ℕ) (a b : List (List Content)) → placed first (a ++ b) ≡ placed first a ++ placed (first + length a) b
placed-append first [] b = ap (λ k. placed k b) (sym (add-zero first))
placed-append first (r ∷ a) b =
    let k : first + 1 + length a ≡ first + suc (length a) = omega arith in
    ap (λ l. (r, first) ∷ l) (placed-append (first + 1) a b ∙ ap (λ j. placed (first + 1) a ++ placed j b) k)

module _ (part : List Content → ℕ) (p : ℕ) where
  part_rows-append : (first : ℕ) (a b : List (List Content)) → part_rows part p first (a ++ b) ≡ part_rows part p first a ++ part_rows part p (first + length a) b
  unfolding part_rows
  part_rows-append first a b =
      let V : List Content × ℕ → List Content = λ x. with_place x.1 x.0 in
      let A = filter (λ (x : List Content × ℕ). part x.0 == p) (placed first a) in
      let B = filter (λ (x : List Content × ℕ). part x.0 == p) (placed (first + length a) b) in
      ap (λ l. map V (filter (λ (x : List Content × ℕ). part x.0 == p) l)) (placed-append first a b)
      ∙ (ap (map V) (filter-append (λ (x : List Content × ℕ). part x.0 == p) (placed first a) (placed (first + length a) b)) ∙ map-append V A B)

  part_rows-none : (first : ℕ) → part_rows part p first [] ≡ []
  unfolding part_rows
  part_rows-none first = refl

  part_text-append : (null : List ℕ) (first : ℕ) (a b : List (List Content)) → part_text null part p first (a ++ b) ≡ part_text null part p first a ++ part_text null part p (first + length a) b
  part_text-append null first a b =
      let A = part_rows part p first a in let B = part_rows part p (first + length a) b in
      let X = map (map (shown null)) A in let Y = map (map (shown null)) B in
      let texts : flat_map (row_text (writer_of comma)) (X ++ Y) ≡ rows_text comma X ++ rows_text comma Y =
      rw (rows_text-flat X, rows_text-flat Y) (flat_map-append (row_text (writer_of comma)) X Y) in
      ap (λ l. rows_text comma (map (map (shown null)) l)) (part_rows-append first a b)
      ∙ (ap (rows_text comma) (map-append (map (shown null)) A B) ∙ (rows_text-flat (X ++ Y) ∙ texts))

  part_text-none : (null : List ℕ) (first : ℕ) → part_text null part p first [] ≡ []
  unfolding rows_text
  part_text-none null first = ap (λ l. rows_text comma (map (map (shown null)) l)) (part_rows-none first)

module _ (d : Dividing) where
  -- nothing is divided yet
  pub divided-none : (told : List (Option (List ℕ))) → IsDivided d [] told told 0
  divided-none told = record {
    rows = [];
    read = tt;
    many = refl;
    parts = λ p low. rw (part_text-none d.part p (written_null d.nulls) d.first) (Appends-nil (get_or told p None));
  }

  -- records behind others that were divided
  pub divided-more : (xs ys : List (List (List ℕ))) (before between after : List (Option (List ℕ))) (m n : ℕ) → length between ≡ length before
      → IsDivided d xs before between m → IsDivided (after_rows m d) ys between after n → IsDivided d (xs ++ ys) before after (m + n)
  divided-more xs ys before between after m n same a b =
      let size = length-append a.rows b.rows in
      record {
        rows = a.rows ++ b.rows;
        read = rows-append d.nulls d.types xs ys a.rows b.rows a.read b.read;
        many = omega (arith, size, a.many, b.many);
        parts = λ p low.
            let k = ap (λ j. part_text (written_null d.nulls) d.part p (d.first + j) b.rows) a.many in
            let here : p < length between = omega (arith, low, same) in
            let both = Appends-trans (get_or before p None) (get_or between p None) (get_or after p None) _ _ (a.parts p low) (rw k at (b.parts p here)) in
            rw (part_text-append d.part p (written_null d.nulls) d.first a.rows b.rows) both;
      }

  -- an output that got nothing
  pub part-none : (before after : List (Option (List ℕ))) (p : ℕ) → get_or after p None ≡ get_or before p None → IsPartDivided d [] before after p
  part-none before after p same = record {
    rows = [];
    read = tt;
    got = rw (part_text-none d.part p (written_null d.nulls) d.first, same) (Appends-nil (get_or before p None));
  }

  -- the part of an output of those that are divided
  pub part-of : (records : List (List (List ℕ))) (before after : List (Option (List ℕ))) (n p : ℕ) → p < length before → IsDivided d records before after n → IsPartDivided d records before after p
  part-of records before after n p low x = record { rows = x.rows; read = x.read; got = x.parts p low }

  -- records of a part behind others that were divided
  pub part-more : (xs ys : List (List (List ℕ))) (before between after : List (Option (List ℕ))) (m p : ℕ) → p < length before
      → IsDivided d xs before between m → IsPartDivided (after_rows m d) ys between after p → IsPartDivided d (xs ++ ys) before after p
  part-more xs ys before between after m p low a b =
      let k = ap (λ j. part_text (written_null d.nulls) d.part p (d.first + j) b.rows) a.many in
      let both = Appends-trans (get_or before p None) (get_or between p None) (get_or after p None) _ _ (a.parts p low) (rw k at b.got) in
      record {
        rows = a.rows ++ b.rows;
        read = rows-append d.nulls d.types xs ys a.rows b.rows a.read b.read;
        got = rw (part_text-append d.part p (written_null d.nulls) d.first a.rows b.rows) both;
      }

-- no output failed where the text has a fault
pub reading-counts : (T : Type 0) (e : DivideRefused) (counts : List ℕ) → IsReadingFault e → counts ≡ counts_after {T = T} (Err e) counts
reading-counts T refused.ReadDevice counts h = absurd h
reading-counts T (refused.Broken f) counts h = absurd h
reading-counts T (refused.WriteDevice p) counts h = absurd h
reading-counts T e counts h = refl

-- the device that gives bytes did not fail where a piece was not divided
pub piece-reads : (T : Type 0) (e : DivideRefused) (old new : ℕ) → IsAfterReading e → new ≡ old → new ≡ reads_after {T = T} (Err e) old
piece-reads T refused.ReadDevice old new h same = absurd h
piece-reads T e old new h same = same
