-- The failure of a refused merge is that of the output exactly if the output failed.
use Rattle.std.proofs.Common.{◌≡◌, ℕ, List, refl, inl, inr, subst, sym}
use Rattle.merges.specs.Refusals.{IsOf, IsOfMerge}
use Rattle.merges.specs.declared.failure.Failure.{Failure}
use Rattle.merges.specs.declared.failure.Failure.TheVariants as failure
use Rattle.rj_shards.specs.declared.merge.refused.MergeRefused.{MergeRefused}
use Rattle.rj_shards.specs.declared.merge.refused.MergeRefused.TheVariants as refused
use Rattle.rj_shards.specs.declared.merge.refused.MergeTextsRefused.{MergeTextsRefused}
use Rattle.rj_shards.specs.declared.merge.refused.MergeTextsRefused.TheVariants as texts_refused

of_input : (files : List (List ℕ)) (e : MergeRefused) (f : Failure) → IsOfMerge files e f → f ≡ failure.WriteDevice → ⊥
of_input files refused.Memory f is written = cc (is, written)
of_input files (refused.ReadDevice input) f is written = cc (is.2, written)
of_input files (refused.NoHeader input) f is written = cc (is.2, written)
of_input files (refused.NoPlaces input) f is written = cc (is.2, written)
of_input files (refused.OtherHeader input) f is written = cc (is.2, written)
of_input files (refused.RaggedRow input row) f is written = cc (is.2, written)
of_input files (refused.BadPlace input row) f is written = cc (is.2, written)
of_input files (refused.NoPlace input row) f is written = cc (is.2, written)
of_input files (refused.NotInOrder input row) f is written = cc (is.2, written)
of_input files (refused.RepeatedPlace place) f is written = cc (is, written)

pub output_failed : (files : List (List ℕ)) (e : MergeTextsRefused) (f : Failure) → IsOf files e f → f ≡ failure.WriteDevice → e ≡ texts_refused.WriteDevice
output_failed files texts_refused.WriteDevice f is written = refl
output_failed files (texts_refused.Merge e) f (inl is) written = absurd (of_input files e f is written)
output_failed files (texts_refused.Merge e) f (inr is) written = cc (is.1, written)

pub failed_output : (files : List (List ℕ)) (e : MergeTextsRefused) (f : Failure) → IsOf files e f → e ≡ texts_refused.WriteDevice → f ≡ failure.WriteDevice
failed_output files texts_refused.WriteDevice f is written = is
failed_output files (texts_refused.Merge e) f is written = cc

-- the failure of an error that is known
pub of_known : (files : List (List ℕ)) (e known : MergeRefused) (f : Failure) → e ≡ known → IsOfMerge files known f → IsOfMerge files e f
of_known files e known f is holds = subst (λ x. IsOfMerge files x f) (sym is) holds
