use Rattle.std.proofs.Common.{◌∙◌, ◌<◌, ◌++◌, ◌∷◌, [], ℕ, List, Bor, ap, arith, length, map, subst, sym, take}
use Rattle.std.proofs.lemmas.List.{map-append, take_more}
use Rattle.rj_csv_io.specs.Internal.NameColumns.{columns_in}
use Rattle.rj_csv_io.specs.Named as named
use Rattle.rj_csv_io.proofs.NamingFacts.{name-at_place, names-size_in}
use Rattle.rj_csv_io.proofs.names.completing.names_of.Goals as goal

pub loop-i-preserved : goal.loop-i-preserved
loop-i-preserved c =
    let columns = c.args.columns.now in
    let names = named.names_of (columns_in columns) in
    let i = c.loop-i.i in
    let within : i < length columns = omega arith in
    let at = name-at_place columns i c.index-columns-i.result within (sym c.index-columns-i.is) in
    let more = take_more names i [] (subst (λ (n : ℕ). i < n) (sym (names-size_in columns)) within) in
    record {
      told = ap (map (λ (n : Bor (List ℕ)). n.now)) c.in_ok-push.ensures.items
          ∙ (map-append (λ (n : Bor (List ℕ)). n.now) c.loop-i.names.items (c.name.result ∷ [])
          ∙ (ap (λ (l : List (List ℕ)). l ++ c.name.result.now ∷ []) c.loop-i.invariant.told
          ∙ (ap (λ (n : List ℕ). take i names ++ n ∷ []) (c.name.ensures ∙ sym at) ∙ sym more)));
      end = c.loop-i.invariant.end;
    }
