use Rattle.std.proofs.Common.{◌≡◌, ◌∙◌, Bor, List, [], ℕ, arith, false, get_or, map, rules, true}
use Rattle.std.specs.Prelude.{is_none}
use Rattle.rj_settings.specs.Columns.{kind_of}
use Rattle.rj_explain.proofs.LookFacts.{find-here, find-more}
use Rattle.rj_explain.proofs.NameFacts.{item-is}
use Rattle.rj_explain.proofs.headers.first_unnamed.Goals as goal

pub returns-then-branch : goal.returns-then-branch
returns-then-branch c =
    let none : Bor (List ℕ) = record { ref_ptr = (0, 0); now = [] } in
    let names = c.args.names.now in
    let i = c.loop-i.i in
    let name = (get_or names i none).now in
    let untyped : is_none (kind_of c.args.entries.now name) ≡ true = search rules in
    find-here (λ (n : List ℕ). is_none (kind_of c.args.entries.now n)) (map (λ (n : Bor (List ℕ)). n.now) names) i name (item-is names i none (omega arith)) untyped
    ∙ c.loop-i.invariant

pub loop-i-preserved : goal.loop-i-preserved
loop-i-preserved c =
    let none : Bor (List ℕ) = record { ref_ptr = (0, 0); now = [] } in
    let names = c.args.names.now in
    let i = c.loop-i.i in
    let name = (get_or names i none).now in
    let typed : is_none (kind_of c.args.entries.now name) ≡ false = search rules in
    find-more (λ (n : List ℕ). is_none (kind_of c.args.entries.now n)) (map (λ (n : Bor (List ℕ)). n.now) names) i name (item-is names i none (omega arith)) typed
    ∙ c.loop-i.invariant
