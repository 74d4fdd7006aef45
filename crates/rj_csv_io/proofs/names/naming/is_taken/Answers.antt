use Rattle.std.proofs.Common.{◌<◌, ℕ, List, Bor, true, false, arith, length, map, subst, sym}
use Rattle.rj_csv_io.proofs.NamingFacts.{no_field, alike-at, fields-size, taken-found, taken-more}
use Rattle.rj_csv_io.proofs.names.naming.is_taken.Goals as goal

pub returns-then-eq_ignore_ascii_case : goal.returns-then-eq_ignore_ascii_case
returns-then-eq_ignore_ascii_case c =
    let names = map (λ (t : Bor (List ℕ)). t.now) c.args.taken.now in
    let i = c.loop-i.i in
    let within : i < length c.args.taken.now = omega arith in
    let size = fields-size c.args.taken.now i no_field within in
    sym (taken-found names c.args.name.now i (subst (λ (n : ℕ). i < n) (sym size) within) (alike-at c.args.taken.now i no_field within c.args.name.now true c.if-eq_ignore_ascii_case.ensures.test))

pub loop-i-preserved : goal.loop-i-preserved
loop-i-preserved c =
    let names = map (λ (t : Bor (List ℕ)). t.now) c.args.taken.now in
    let i = c.loop-i.i in
    let within : i < length c.args.taken.now = omega arith in
    let size = fields-size c.args.taken.now i no_field within in
    record {
      none = taken-more names c.args.name.now i (subst (λ (n : ℕ). i < n) (sym size) within) c.loop-i.invariant.none
          (alike-at c.args.taken.now i no_field within c.args.name.now false c.if-eq_ignore_ascii_case.ensures.test);
      end = c.loop-i.invariant.end;
    }
