-- The merge of the files that the words of the command line name, and why there is none.
use Rattle.std.specs.Prelude.{◌≡◌, ◌⊎◌, ℕ, false, List, length, map, Option, Err}
use Rattle.clap.specs.Words.{Text}
use Rattle.merges.specs.Lines.{IsLineFailure, IsMergeLine}
use Rattle.merges.specs.Refusals.{IsOf}
use Rattle.merges.specs.declared.failure.Failure.{Failure}
use Rattle.merges.specs.declared.line.Line.{Line}
use Rattle.rj_shards.specs.Inputs.{is_input}
use Rattle.rj_shards.specs.MergedTexts.{GotMerge, HaveNoFault, HeedsHeaders, IsFaultOfTexts, IsPartlyMerged, IsUntouched}
use Rattle.rj_shards.specs.Named.{ForNamed, IsOpenFault, OpensNothing}
use Rattle.rj_shards.specs.Sources.{TellsAmong, is_outside}
use Rattle.rj_shards.specs.declared.merge.refused.MergeRefused.{MergeRefused}
use Rattle.rj_shards.specs.declared.merge.refused.MergeTextsRefused.{MergeTextsRefused}
use Rattle.rj_shards.specs.declared.merge.refused.MergeTextsRefused.TheVariants as refused

-- the names of the files of a line
abbrev pub names : Line → List Text
names line = map (λ f. f.now) line.files.items

module _ {R : Type 0} (opens : Text → R → Type 0) (known : R → Option Text) where
  -- an output got the merge of the texts that the files of the words open, with the copies and by
  -- the options that the words say
  pub record IsMergeOfWords (words : List Text) (old new : Option Text) : Type 0 where
    pub line : Line
    pub read : IsMergeLine words line
    pub merge : ForNamed opens known (names line) (λ texts. GotMerge line.how line.copies.items texts old new)
    pub sound : ForNamed opens known (names line) (HaveNoFault line.how)

module _ {R O : Type 0} (opens : Text → R → Type 0) (shut : Text → Type 0) (known : R → Option Text) (told : O → Option Text) where
  -- a merge of the files of a line was refused: an error that isn't the machine's is one of the
  -- texts, and that of the first header that has one, and then the output is as it was. If a file
  -- can't be opened, the output is as it was, too, and the error is that of the first such file.
  -- After each error but one of the output it has only first bytes of the merge. The error is one
  -- of the files', and the failure has the name of that file
  pub record IsRefusalOfLine (old new : O) (line : Line) (f : Failure) : Type 0 where
    pub error : MergeTextsRefused
    pub fault : (e : MergeRefused) → error ≡ refused.Merge e → is_outside e ≡ false
        → ForNamed opens known (names line) (λ texts. IsFaultOfTexts line.how line.copies.items texts e)
    pub first : ForNamed opens known (names line) (HeedsHeaders {T = Unit {0}} (Err error))
    pub untouched : ForNamed opens known (names line) (IsUntouched old new)
    pub unopened : (i : ℕ) → OpensNothing opens (names line) i → (new ≡ old) × ((e : MergeRefused) × (error ≡ refused.Merge e) × IsOpenFault shut (names line) i e)
    pub partly : (e : MergeRefused) → error ≡ refused.Merge e
        → ForNamed opens known (names line) (λ texts. IsPartlyMerged line.how line.copies.items texts (told old) (told new))
    pub input : (e : MergeRefused) → error ≡ refused.Merge e → TellsAmong (is_input (length (names line))) e
    pub is : IsOf (names line) error f

  -- the merge that the words ask for was refused
  pub record IsRefusalOfWords (old new : O) (words : List Text) (f : Failure) : Type 0 where
    pub line : Line
    pub read : IsMergeLine words line
    pub refusal : IsRefusalOfLine old new line f

  -- the words are no line, or the merge that they ask for was refused
  abbrev pub IsFailure : O → O → List Text → Failure → Type 0
  IsFailure old new words f = IsLineFailure words f ⊎ IsRefusalOfWords old new words f
