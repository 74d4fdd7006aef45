use Rattle.std.proofs.Common.{◌≡◌, ◌∙◌, ◌<◌, ◌≤◌, ℕ, List, Bor, true, false, arith, length, map, subst, sym, take}
use Rattle.std.proofs.lemmas.List.{length-map}
use Rattle.rj_csv_io.proofs.NamingFacts.{no_field, fields-size, have-all, have-more, have-not, needs-at}
use Rattle.rj_csv_io.proofs.names.naming.have_names.Goals as goal

pub returns-then-needs_name : goal.returns-then-needs_name
returns-then-needs_name c =
    let names = map (λ (t : Bor (List ℕ)). t.now) c.args.fields.now in
    let i = c.loop-i.i in
    let within : i < length c.args.fields.now = omega arith in
    let size = fields-size c.args.fields.now i no_field within in
    sym (have-not names i (subst (λ (n : ℕ). i < n) (sym size) within) (needs-at c.args.fields.now i no_field within true c.if-needs_name.ensures)) ∙ c.loop-i.invariant.told

pub loop-i-preserved : goal.loop-i-preserved
loop-i-preserved c =
    let names = map (λ (t : Bor (List ℕ)). t.now) c.args.fields.now in
    let i = c.loop-i.i in
    let within : i < length c.args.fields.now = omega arith in
    let size = fields-size c.args.fields.now i no_field within in
    record {
      told = sym (have-more names i (subst (λ (n : ℕ). i < n) (sym size) within) (needs-at c.args.fields.now i no_field within false c.if-needs_name.ensures)) ∙ c.loop-i.invariant.told;
      end = c.loop-i.invariant.end;
    }

pub returns : goal.returns
returns c =
    let names = map (λ (t : Bor (List ℕ)). t.now) c.args.fields.now in
    let over : length c.args.fields.now ≤ c.loop-i.i = omega arith in
    let size : length names ≡ length c.args.fields.now = length-map c.args.fields.now (λ (t : Bor (List ℕ)). t.now) in
    sym (have-all (take c.loop-i.i names) names c.loop-i.i (subst (λ (n : ℕ). n ≤ c.loop-i.i) (sym size) over)) ∙ c.loop-i.invariant.told
