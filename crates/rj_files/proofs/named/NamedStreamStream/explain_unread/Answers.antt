use Rattle.std.proofs.Common.{◌∙◌, sym}
use Rattle.std.specs.Prelude.{string_bytes}
use Rattle.std.proofs.lemmas.Result.{IfOk-weaker}
use Rattle.rj_files.proofs.TextFacts.{line-of-file, line-of-input}
use Rattle.rj_files.proofs.named.NamedStreamStream.explain_unread.Goals as goal

pub returns-then-is_standard_stream : goal.returns-then-is_standard_stream
returns-then-is_standard_stream g c =
    IfOk-weaker c.format.result _ _ (λ s is. line-of-input c.args.self.now.name.now (string_bytes s) (sym c.is_standard_stream.ensures ∙ c.if-is_standard_stream.true) is)
    c.format.ensures.ok

pub returns : goal.returns
returns g c =
    IfOk-weaker c.told_by_system.result _ _ (λ s line. line-of-file c.args.self.now.name.now (string_bytes s) (sym c.is_standard_stream.ensures ∙ c.if-is_standard_stream.false) line)
    c.told_by_system.ensures.line
