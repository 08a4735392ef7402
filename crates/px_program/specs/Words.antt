-- The words after the program's name.
use Rattle.std.specs.Prelude.{ℕ, List, Option, option_map}
use Rattle.px_arguments.specs.Arguments.{command_folder, command_in}

-- the folder of the command that the words are, and none where they are no command
abbrev pub folder_in_words : List (List ℕ) → Option (List ℕ)
folder_in_words words = option_map command_folder (command_in words)
