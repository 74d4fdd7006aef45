-- The file that takes a target's place: where it is made, and its mode.
use Rattle.std.specs.Prelude.{ℕ, ◌==◌, ◌+◌, ◌*◌, ◌/◌, ◌%◌, bit_and, codes, decimal, if◌then◌else◌, List, [], ◌++◌, Option, None, Some, length, nat_lt}
use Rattle.std.specs.Option.{option_map}
use Rattle.std.specs.Path.{path_file_name, path_join, path_parent}

-- a folder as a path names it: the one in which the program runs is `.`
abbrev pub named_folder : List ℕ → List ℕ
named_folder folder = if length folder == 0 then codes "." else folder

-- the folder of a path; the root and the empty path are in none
abbrev pub folder_of : List ℕ → Option (List ℕ)
folder_of path = option_map named_folder (path_parent path)

-- a name in a folder; it stays as it is if it begins with a slash, or there is no folder
abbrev pub in_folder : Option (List ℕ) → List ℕ → List ℕ
in_folder None name = name
in_folder (Some folder) name = path_join folder name

-- what a new file's name has of the name of a file: nothing of one that is too long
abbrev pub repeated : List ℕ → List ℕ
repeated file = if nat_lt 200 (length file) then [] else file

-- a new file's name, beside a file of this name
abbrev pub own_name : List ℕ → ℕ → List ℕ
own_name file number = codes "." ++ (repeated file ++ (codes ".radixjoin-" ++ decimal number))

-- the path of a new file, in the folder of its target; none if the target's path names no file
abbrev pub draft_name : List ℕ → ℕ → Option (List ℕ)
draft_name target number = option_map (λ file. in_folder (path_parent target) (own_name file number)) (path_file_name target)

-- what all others may do by a mode, its lowest octal digit: read is 4, write 2 and run 1
abbrev pub rights_of_others : ℕ → ℕ
rights_of_others mode = mode % 8

-- what the group may do: the next digit
abbrev pub rights_of_group : ℕ → ℕ
rights_of_group mode = mode / 8 % 8

-- what the owner may do, and as whom the file runs: the two digits above
abbrev pub rights_of_owner : ℕ → ℕ
rights_of_owner mode = mode / 64 % 64

-- the mode by which the group may do what both it and all others might
abbrev pub without_group : ℕ → ℕ
without_group mode = rights_of_owner mode * 64 + (bit_and (rights_of_group mode) (rights_of_others mode) * 8 + rights_of_others mode)
