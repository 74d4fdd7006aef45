use Rattle.std.proofs.Common.{◌≡◌, ◌≢◌, ◌∙◌, ℕ, List, ap, inl, inr, rules, subst, sym}
use Rattle.std.specs.Prelude.{IsUtf8}
use Rattle.std.proofs.lemmas.Result.{IfOk-weaker}
use Rattle.rj_line.specs.declared.fault.Fault.{Fault}
use Rattle.rj_line.specs.declared.fault.Fault.TheVariants as fault
use Rattle.rj_line.specs.Suggested.{IsSuggestFault}
use Rattle.rj_files.specs.Entries.{entry_for}
use Rattle.rj_files.specs.Explained.{IsSuggestedOf, undeclared_line}
use Rattle.rj_files.proofs.SuggestedFacts.{suggested-text}
use Rattle.rj_files.proofs.explaining.undeclared_lines.Goals as goal

-- an error of a file is one of the same file
same-fault : (d e : ℕ) (file bytes : List ℕ) (nulls texts : List (List ℕ)) (f : Fault) → d ≡ e → file ≡ bytes → nulls ≡ texts → IsSuggestFault d file nulls f
    → IsSuggestFault e bytes texts f
same-fault d e file bytes nulls texts f p q r told =
    subst (λ (n : ℕ). IsSuggestFault n bytes texts f) p
    (subst (λ (l : List ℕ). IsSuggestFault d l texts f) q (subst (λ (l : List (List ℕ)). IsSuggestFault d file l f) r told))

pub returns-in-Err : goal.returns-in-Err
returns-in-Err c =
    let f = c.in-Err.field-0 in
    let other : f ≢ fault.Memory = search rules in
    let format = c.format_of-format.ensures in
    inl (f, (other, same-fault _ _ _ _ _ _ f format.delimiter c.file_of.ensures format.nulls (c.in-Err.ensures.fault other)), c.new.ensures.bytes)

pub unreachable-requires : goal.unreachable-requires
unreachable-requires c =
    c.in-Err-from_utf8.ensures.cases.0 (subst IsUtf8 (sym c.as_slice.ensures.value) (suggested-text _ _ c.in-Ok.suggestion c.in-Ok.ensures.suggestion))

pub returns : goal.returns
returns c =
    let suggestion = c.in-Ok.suggestion in
    let told : IsSuggestedOf c.args.side c.args.inputs.now suggestion = search rules in
    let list : c.in-Ok-from_utf8.list.now ≡ suggestion.list.items = c.in-Ok-from_utf8.ensures.cases.0 ∙ c.as_slice.ensures.value in
    IfOk-weaker c.undeclared_line.result _ _
    (λ s is. inr (suggestion, told, is ∙ ap (undeclared_line c.args.side) (c.entry_for.ensures ∙ ap (entry_for c.args.name.now) list)))
    c.undeclared_line.ensures
