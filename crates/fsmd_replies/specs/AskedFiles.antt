-- The files of what words ask.
use Rattle.std.specs.Prelude.{ℕ, Bool, true, false, Option, Some, None, List, [], ◌∷◌, get_or}
use Rattle.fsmd_words.specs.AskedWords.{Asked, Check, Verify, Run, Replay, Fmt, Cuts, Generate}
use Rattle.fsmd_words.specs.AskedWords.{Compile, Schedule, Bind, Shrink, Chain}
use Rattle.fsmd_replies.specs.declared.answer.Operand.{Operand}

-- the file of a number, in the order of work, from 0
abbrev pub operand : ℕ → Operand
operand n = record { 0 = n }

-- the words for the files of a chain behind its first machine, in the order of work: of each link the next machine, and then the
-- certificate, whose word stands before
abbrev pub in_links : List (List ℕ) → List (List ℕ)
in_links (certificate ∷ machine ∷ words) = machine ∷ certificate ∷ in_links words
in_links words = words

-- the words for the files of a chain, in the order of work; where there are none, no text stands for that of the first machine
abbrev pub in_chain : List (List ℕ) → List (List ℕ)
in_chain [] = [] ∷ []
in_chain (machine ∷ words) = machine ∷ in_links words

-- the words that name files to be read, in the order of work
abbrev pub files_of : Option Asked → List (List ℕ)
files_of None = []
files_of (Some (Check left right cert steps)) = left ∷ right ∷ []
files_of (Some (Verify left right cert)) = left ∷ right ∷ cert ∷ []
files_of (Some (Run machine inputs steps)) = machine ∷ inputs ∷ []
files_of (Some (Replay left right inputs steps)) = left ∷ right ∷ inputs ∷ []
files_of (Some (Fmt machine)) = machine ∷ []
files_of (Some (Cuts machine)) = machine ∷ []
files_of (Some (Generate loops)) = []
files_of (Some (Compile program)) = program ∷ []
files_of (Some (Schedule machine units)) = machine ∷ units ∷ []
files_of (Some (Bind machine binding)) = machine ∷ binding ∷ []
files_of (Some (Shrink left right inputs steps)) = left ∷ right ∷ inputs ∷ []
files_of (Some (Chain files)) = in_chain files

-- the word that names a file, or no text where there is no such file
abbrev pub file_word_of : Option Asked → Operand → List ℕ
file_word_of o file = get_or (files_of o) file.0 []

-- the word that names the file for a certificate
abbrev pub cert_of : Option Asked → Option (List ℕ)
cert_of (Some (Check left right cert steps)) = cert
cert_of _ = None

-- two machines of files are to be compared
abbrev pub is_check : Option Asked → Bool
is_check (Some (Check left right cert steps)) = true
is_check _ = false

-- a certificate is to be checked
abbrev pub is_verify : Option Asked → Bool
is_verify (Some (Verify left right cert)) = true
is_verify _ = false

-- two machines are to be compared, of files or generated
abbrev pub compares : Option Asked → Bool
compares (Some (Check left right cert steps)) = true
compares (Some (Generate loops)) = true
compares _ = false

-- the most steps of a run of generated machines
abbrev pub generated_steps : ℕ
generated_steps = 10000

-- the most steps of a run from a candidate
abbrev pub step_limit : Option Asked → ℕ
step_limit (Some (Check left right cert steps)) = steps
step_limit _ = generated_steps

-- the most steps of a run from inputs that are to be made small
abbrev pub shrink_limit : Option Asked → ℕ
shrink_limit (Some (Shrink left right inputs steps)) = steps
shrink_limit _ = generated_steps
