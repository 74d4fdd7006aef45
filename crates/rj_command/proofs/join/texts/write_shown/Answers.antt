use Rattle.std.proofs.Common.{◌∙◌, List, Bor, ap, length, sym, ℕ}
use Rattle.std.specs.Prelude.{String, string_bytes}
use Rattle.std.specs.declared.alloc.Global.{Global}
use Rattle.std.proofs.lemmas.List.{length-map}
use Rattle.rj_command.proofs.join.texts.write_shown.Goals as goal

pub write_whole-requires-clause-header : goal.write_whole-requires-clause-header
write_whole-requires-clause-header g c κs within =
    let header = c.in-Ok.header.items in
    ap length c.as_slice-header.ensures.value
    ∙ (sym (length-map header (λ (n : Bor (List ℕ)). n.now))
    ∙ (ap length c.in-Ok.ensures ∙ (length-map c.args.written.now.names.now (λ (n : String Global). string_bytes n) ∙ c.requires.names)))
