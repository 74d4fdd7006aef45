use Rattle.std.proofs.Common.{◌∙◌, ◌<◌, ◌≤◌, ◌+◌, ◌++◌, ◌∷◌, [], ℕ, List, ap, arith, drop, length, subst, sym}
use Rattle.std.proofs.Common.{append-nil, append_assoc}
use Rattle.rj_csv_io.specs.Internal.NameColumns.{column_in, columns_in, told_of}
use Rattle.rj_csv_io.specs.Named as names
use Rattle.rj_csv_io.proofs.NamingFacts.{column-at_place, columns-size_in, given-all, given-more}
use Rattle.rj_csv_io.proofs.names.naming.given_names.Goals as goal

pub loop-i-preserved : goal.loop-i-preserved
loop-i-preserved c =
    let columns = c.args.columns.now in
    let i = c.loop-i.i in
    let within : i < length columns = omega arith in
    let here = column-at_place columns i c.index-columns-i.result within (sym c.index-columns-i.is) in
    let rest = names.given_from (i + 1 + 1) (drop (i + 1) (columns_in columns)) in
    let more = given-more (columns_in columns) i (i + 1) (column_in c.index-columns-i.result) (subst (λ (n : ℕ). i < n) (sym (columns-size_in columns)) within) in
    let same = more ∙ ap (λ (k : names.Column). names.given_from (i + 1) (k ∷ []) ++ rest) here in
    record {
      told = ap (λ (l : List (ℕ × List ℕ)). l ++ rest) c.in_ok-add_given.ensures
          ∙ (append_assoc (told_of c.loop-i.given.items) (names.given_from (i + 1) (column_in c.index-columns-i.result ∷ [])) rest
          ∙ (ap (λ (l : List (ℕ × List ℕ)). told_of c.loop-i.given.items ++ l) (sym same) ∙ c.loop-i.invariant.told));
      end = c.loop-i.invariant.end;
    }

pub returns : goal.returns
returns c =
    let columns = c.args.columns.now in
    let over : length columns ≤ c.loop-i.i = omega arith in
    let none = given-all (columns_in columns) c.loop-i.i (c.loop-i.i + 1) (subst (λ (n : ℕ). n ≤ c.loop-i.i) (sym (columns-size_in columns)) over) in
    sym (append-nil (told_of c.loop-i.given.items)) ∙ (ap (λ (l : List (ℕ × List ℕ)). told_of c.loop-i.given.items ++ l) (sym none) ∙ c.loop-i.invariant.told)
