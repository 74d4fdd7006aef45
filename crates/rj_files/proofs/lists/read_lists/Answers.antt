use Rattle.std.proofs.Common.{◌≡◌, ◌∙◌, ◌++◌, ◌∷◌, [], Bool, List, ap, map, rules, subst, sym}
use Rattle.std.specs.Prelude.{None, string_bytes}
use Rattle.std.specs.Vec.Iter.{into_iter_items}
use Rattle.std.specs.declared.alloc.Global.{Global}
use Rattle.std.specs.declared.string.String.{String}
use Rattle.rj_files.specs.Asking.{ask_for_lines}
use Rattle.rj_files.specs.Labels.{AreReadWords, IsListsError, label_of}
use Rattle.rj_files.proofs.ListFacts.{next-fault, next-label, next-len, next-read, next-rest, of-fault}
use Rattle.rj_files.proofs.lists.read_lists.Goals as goal

pub returns-in_err-word-clause-fault : goal.returns-in_err-word-clause-fault
returns-in_err-word-clause-fault g c =
    let so = c.loop-word.invariant in
    let words = c.args.words.items in
    let steps = c.in-Some.ensures.steps in
    let is = ap (λ (l : List (String Global)). c.loop-word.yielded ++ l) (sym steps.0) ∙ so.rest in
    let e = c.in_err-word.field-0.0 in
    let asked : c.in_ok-explain.explain ≡ ask_for_lines (map string_bytes words) = search rules in
    of-fault (IsListsError (map string_bytes words) (ask_for_lines (map string_bytes words))) c.from_residual-in_err-word.result e (search rules)
    (subst (λ (b : Bool). IsListsError (map string_bytes words) b e) asked
    (next-fault c.loop-word.yielded (into_iter_items c.next.new.self) words c.loop-word.label c.in-Some.word _ e is so.label c.in_err-word.ensures.fault))

pub loop-word-preserved : goal.loop-word-preserved
loop-word-preserved g c =
    let so = c.loop-word.invariant in
    let xs : List (String Global) = c.loop-word.yielded in
    let w : String Global = c.in-Some.word in
    let r : String Global = c.in_ok-word.word in
    let ys : List (String Global) = into_iter_items c.loop-word.word-iterator in
    let zs : List (String Global) = into_iter_items c.next.new.self in
    let steps = c.in-Some.ensures.steps in
    let pushed : c.push.new.self.items ≡ c.loop-word.read.items ++ r ∷ [] = search rules in
    let more = next-read xs c.loop-word.read.items c.loop-word.label w r so.read so.label c.in_ok-word.ensures.read in record {
      read = subst (λ (items : List (String Global)). AreReadWords None (map string_bytes (xs ++ w ∷ [])) (map string_bytes items)) (sym pushed) more;
      label = c.label_of-next.ensures ∙ (ap label_of c.as_str.ensures.value ∙ next-label xs w);
      rest = next-rest xs ys zs c.args.words.items w steps.0 so.rest;
      len = next-len ys zs w _ _ steps.0 so.len steps.1;
    }
