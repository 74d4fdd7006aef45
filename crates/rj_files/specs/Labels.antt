-- The errors of a file, by whose file it is.
use Rattle.std.specs.Prelude.{◌≡◌, ◌⊎◌, ◌==◌, ◌++◌, ◌∷◌, [], ℕ, Bool, false, true, List, MatchOption, Option, None, Ok, Some, codes, drop, if◌then◌else◌}
use Rattle.std.specs.List.{after_first, before_first}
use Rattle.std.specs.Str.{bytes_eq}
use Rattle.rj_line.specs.declared.fault.Fault.{Fault}
use Rattle.rj_line.specs.declared.fault.Fault.TheVariants as fault
use Rattle.rj_line.specs.declared.fault.Side.TheVariants as side
use Rattle.rj_line.specs.Listed.{list_in}
use Rattle.rj_files.specs.Texts.{IsSystemLine}
use Rattle.rj_files.specs.Told.{IsKept, IsThere}
use Rattle.rj_files.specs.declared.explained.ExplainedFault.{ExplainedFault}
use Rattle.rj_files.specs.declared.reading.FileLabel.{FileLabel}
use Rattle.rj_files.specs.declared.reading.FileLabel.TheVariants as label

-- whose types the value of an option lists, if it is an option of types
abbrev pub label_of : List ℕ → Option FileLabel
label_of option = if bytes_eq option (codes "--left-types") then Some (label.One side.Left)
    else if bytes_eq option (codes "--right-types") then Some (label.One side.Right)
    else if bytes_eq option (codes "--types") then Some label.Both else None

-- a file can't be opened or read to its end
abbrev pub unread_fault : FileLabel → Fault
unread_fault (label.One s) = fault.ReadDevice s
unread_fault label.Both = fault.SharedReadDevice

-- a file of types isn't UTF-8
abbrev pub bad_list_fault : FileLabel → Fault
bad_list_fault (label.One s) = fault.BadTypeList s
bad_list_fault label.Both = fault.BadSharedTypeList

-- why the bytes of a file can't be had
abbrev pub IsUnreadOf : FileLabel → Fault → Type 0
IsUnreadOf l f = (f ≡ fault.Memory) ⊎ (f ≡ unread_fault l)

-- why the list of a file can't be had
abbrev pub IsListFault : FileLabel → Fault → Type 0
IsListFault l f = IsUnreadOf l f ⊎ (f ≡ bad_list_fault l)

-- a value that is `@` and the name of a file
abbrev pub is_file : List ℕ → Bool
is_file [] = false
is_file (b ∷ name) = b == 64

-- whose types are in the file that a word names, if it names one: behind the option of types that
-- is the word before, or in one word with its option and `=`
abbrev pub file_label : Option FileLabel → List ℕ → Option FileLabel
file_label None word = if is_file (after_first (λ b. b == 61) word) then label_of (before_first (λ b. b == 61) word) else None
file_label (Some l) word = if is_file word then Some l else None

-- the name of that file
abbrev pub named_file : Option FileLabel → List ℕ → List ℕ
named_file None word = drop 1 (after_first (λ b. b == 61) word)
named_file (Some l) word = drop 1 word

-- the name that an error of a file of types has: the file's, if it can't be read
abbrev pub unread_name : List ℕ → Fault → Option (List ℕ)
unread_name name (fault.ReadDevice s) = Some name
unread_name name fault.SharedReadDevice = Some name
unread_name name f = None

-- what stays of such a word before the list
abbrev pub kept_of : Option FileLabel → List ℕ → List ℕ
kept_of None word = before_first (λ b. b == 61) word ++ codes "="
kept_of (Some l) word = []

-- a word as it is read: the list that the bytes of a file write stands in the place of `@FILE`
abbrev pub IsReadWord : Option FileLabel → List ℕ → List ℕ → Type 0
IsReadWord before word read = MatchOption (file_label before word) (read ≡ word) (λ _. (bytes : List ℕ) × (read ≡ kept_of before word ++ list_in bytes))

abbrev pub AreReadWords : Option FileLabel → List (List ℕ) → List (List ℕ) → Type 0
AreReadWords before [] [] = Unit {0}
AreReadWords before [] (r ∷ read) = ⊥
AreReadWords before (w ∷ words) [] = ⊥
AreReadWords before (w ∷ words) (r ∷ read) = IsReadWord before w r × AreReadWords (label_of w) words read

-- one of these words names this file with types of these tables
abbrev pub NameFile : Option FileLabel → List (List ℕ) → FileLabel → List ℕ → Type 0
NameFile before [] l name = ⊥
NameFile before (w ∷ words) l name = ((file_label before w ≡ Some l) × (named_file before w ≡ name)) ⊎ NameFile (label_of w) words l name

-- the line that tells of a file of types why its list can't be had; none if memory ran out
abbrev pub IsListLine : List ℕ → Fault → List ℕ → Type 0
IsListLine name (fault.ReadDevice s) text = IsSystemLine (codes "the file of types " ++ name) text
IsListLine name fault.SharedReadDevice text = IsSystemLine (codes "the file of types " ++ name) text
IsListLine name (fault.BadTypeList s) text = text ≡ codes "  the file of types " ++ (name ++ (codes " isn't UTF-8" ++ 10 ∷ []))
IsListLine name fault.BadSharedTypeList text = text ≡ codes "  the file of types " ++ (name ++ (codes " isn't UTF-8" ++ 10 ∷ []))
IsListLine name f text = text ≡ []

-- memory ran out, and neither a file is named nor is anything explained
abbrev pub IsMemoryError : ExplainedFault → Type 0
IsMemoryError e = (e.fault ≡ fault.Memory) × IsKept e.file None × (e.lines ≡ Ok None)

-- why the list of this file can't be had; it has the file's name, and a line if that is asked for
abbrev pub IsListError : Bool → ExplainedFault → FileLabel → List ℕ → Type 0
IsListError explain e l name = IsListFault l e.fault × IsKept e.file (unread_name name e.fault) × (explain ≡ true → IsThere e.lines (IsListLine name e.fault))

-- why a word can't be had with the list of the file that it names
abbrev pub IsWordError : Option FileLabel → List ℕ → Bool → ExplainedFault → Type 0
IsWordError before word explain e =
    IsMemoryError e ⊎ ((l : FileLabel) × (file_label before word ≡ Some l) × IsListError explain e l (named_file before word))

-- why the words of a line can't be had with the lists of the files that they name
abbrev pub IsListsError : List (List ℕ) → Bool → ExplainedFault → Type 0
IsListsError words explain e =
    IsMemoryError e ⊎ ((l : FileLabel) × (name : List ℕ) × NameFile None words l name × IsListError explain e l name)
