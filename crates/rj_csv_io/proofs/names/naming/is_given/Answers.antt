use Rattle.std.proofs.Common.{◌∙◌, ◌<◌, ℕ, true, false, ap, arith, length, subst, sym}
use Rattle.std.specs.Str.{str_eq_ignore_ascii_case}
use Rattle.rj_csv_io.specs.Internal.NameColumns.{columns_in}
use Rattle.rj_csv_io.specs.Named as named
use Rattle.rj_csv_io.proofs.FreeFacts.{alike-decided}
use Rattle.rj_csv_io.proofs.NamingFacts.{name-at_place, names-size_in, taken-found, taken-more}
use Rattle.rj_csv_io.proofs.names.naming.is_given.Goals as goal

pub returns-then-eq_ignore_ascii_case : goal.returns-then-eq_ignore_ascii_case
returns-then-eq_ignore_ascii_case c =
    let columns = c.args.columns.now in
    let i = c.loop-i.i in
    let within : i < length columns = omega arith in
    let at = name-at_place columns i c.index-columns-i.result within (sym c.index-columns-i.is) in
    sym (taken-found (named.names_of (columns_in columns)) c.args.name.now i (subst (λ (n : ℕ). i < n) (sym (names-size_in columns)) within)
    (ap (str_eq_ignore_ascii_case c.args.name.now) (at ∙ sym c.name.ensures) ∙ alike-decided c.args.name.now c.name.result.now true c.if-eq_ignore_ascii_case.ensures.test))

pub loop-i-preserved : goal.loop-i-preserved
loop-i-preserved c =
    let columns = c.args.columns.now in
    let i = c.loop-i.i in
    let within : i < length columns = omega arith in
    let at = name-at_place columns i c.index-columns-i.result within (sym c.index-columns-i.is) in
    record {
      none = taken-more (named.names_of (columns_in columns)) c.args.name.now i (subst (λ (n : ℕ). i < n) (sym (names-size_in columns)) within) c.loop-i.invariant.none
          (ap (str_eq_ignore_ascii_case c.args.name.now) (at ∙ sym c.name.ensures) ∙ alike-decided c.args.name.now c.name.result.now false c.if-eq_ignore_ascii_case.ensures.test);
      end = c.loop-i.invariant.end;
    }
