use Rattle.std.proofs.Common.{◌≡◌, ◌∙◌, ◌++◌, Bor, List, [], ℕ, ap, arith, codes, get_or, map, rules, sym, take}
use Rattle.std.specs.Prelude.{string_bytes}
use Rattle.rj_explain.specs.Shown.{listed}
use Rattle.rj_line.specs.Shown.{shown}
use Rattle.rj_explain.proofs.NameFacts.{get-map, item-is, listed-more}
use Rattle.rj_explain.proofs.headers.names_line.Goals as goal

pub loop-i-preserved : goal.loop-i-preserved
loop-i-preserved c =
    let none : Bor (List ℕ) = record { ref_ptr = (0, 0); now = [] } in
    let names = map (λ n. n.now) c.args.names.now in
    let i = c.loop-i.i in
    let name = (get_or c.args.names.now i none).now in
    let before = listed (take i (map shown names)) in
    let next = listed-more (map shown names) i (shown name) (get-map shown names i name (item-is c.args.names.now i none (omega arith))) in
    let more : string_bytes c.push_str.new.self ≡ string_bytes c.loop-i.list ++ c.as_str.result.now = search rules in
    let told : c.as_str.result.now ≡ c.before_name-before.result.now ++ shown name = search rules in
    more ∙ (ap (λ xs. xs ++ c.as_str.result.now) c.loop-i.invariant
    ∙ (ap (λ xs. codes "  the header has " ++ (before ++ xs)) (told ∙ ap (λ xs. xs ++ shown name) c.before_name-before.ensures)
    ∙ ap (λ xs. codes "  the header has " ++ xs) (sym next)))
