use Rattle.std.proofs.Common.{◌∙◌, ap, sym}
use Rattle.std.specs.Prelude.{string_bytes}
use Rattle.std.specs.Str.{str_eq_ignore_ascii_case}
use Rattle.rj_engine.proofs.NamingFacts.{among_behind, among_here}
use Rattle.rj_engine.proofs.naming.is_written.Goals as goal

pub returns-then-are_alike : goal.returns-then-are_alike
returns-then-are_alike c =
    let name = c.args.name.now in
    let other = ap (λ s. str_eq_ignore_ascii_case name (string_bytes s)) (sym c.other-item.is) ∙ ap (str_eq_ignore_ascii_case name) (sym c.as_str.ensures.value) in
    among_here string_bytes c.args.names.now name c.loop-other.other-index c.other-item.result c.loop-other-test.true
    (other ∙ (sym c.are_alike.ensures ∙ c.if-are_alike.true)) c.loop-other.invariant

pub loop-other-preserved : goal.loop-other-preserved
loop-other-preserved c =
    let name = c.args.name.now in
    let other = ap (λ s. str_eq_ignore_ascii_case name (string_bytes s)) (sym c.other-item.is) ∙ ap (str_eq_ignore_ascii_case name) (sym c.as_str.ensures.value) in
    among_behind string_bytes c.args.names.now name c.loop-other.other-index c.other-item.result c.loop-other-test.true
    (other ∙ (sym c.are_alike.ensures ∙ c.if-are_alike.false)) c.loop-other.invariant
