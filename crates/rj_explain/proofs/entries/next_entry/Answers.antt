use Rattle.std.proofs.Common.{◌∙◌, List, ℕ, Option, [], ◌∷◌, ap, lit<, sym}
use Rattle.std.proofs.lemmas.Str.Pattern.{strip_prefix_char}
use Rattle.rj_settings.specs.Words.{before}
use Rattle.rj_explain.specs.Entries.{entry_length, further}
use Rattle.rj_explain.proofs.EntryFacts.{cut-boundary, cut-first, cut-parts, left-is}
use Rattle.rj_explain.proofs.entries.next_entry.Goals as goal

pub split_at-requires : goal.split_at-requires
split_at-requires c =
    let list = c.args.list.now in
    let cut = cut-first [] list in
    cut-boundary list cut.0 cut.1 c.entry_len.result cut.2 (cut.3 ∙ (ap (entry_length []) (sym c.as_bytes.ensures.value) ∙ sym c.entry_len.ensures))

pub returns-clause-whole : goal.returns-clause-whole
returns-clause-whole c =
    let list = c.args.list.now in
    let cut = cut-first [] list in
    let parts = cut-parts list cut.0 cut.1 c.entry_len.result cut.2 (cut.3 ∙ (ap (entry_length []) (sym c.as_bytes.ensures.value) ∙ sym c.entry_len.ensures)) in
    let left = left-is cut.1 c.split_at.result.1.now c.strip_prefix.result (c.split_at.ensures.back ∙ parts.1)
    (strip_prefix_char 44 c.split_at.result.1.now c.strip_prefix.result c.strip_prefix.ensures.cases (lit< tt)) in
    cut.2 ∙ (ap (λ (first : List ℕ). before first cut.1) (sym (c.split_at.ensures.front ∙ parts.0))
    ∙ ap (before c.split_at.result.0.now) (sym left))

pub returns-clause-first : goal.returns-clause-first
returns-clause-first c =
    let list = c.args.list.now in
    let cut = cut-first [] list in
    let parts = cut-parts list cut.0 cut.1 c.entry_len.result cut.2 (cut.3 ∙ (ap (entry_length []) (sym c.as_bytes.ensures.value) ∙ sym c.entry_len.ensures)) in
    let left = left-is cut.1 c.split_at.result.1.now c.strip_prefix.result (c.split_at.ensures.back ∙ parts.1)
    (strip_prefix_char 44 c.split_at.result.1.now c.strip_prefix.result c.strip_prefix.ensures.cases (lit< tt)) in
    cut.4 ∙ (ap (λ (first : List ℕ). first ∷ further cut.1) (sym (c.split_at.ensures.front ∙ parts.0))
    ∙ ap (λ (rest : Option (List ℕ)). c.split_at.result.0.now ∷ further rest) (sym left))
