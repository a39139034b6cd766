-- What the words of a call ask.
use Rattle.std.specs.Prelude.{Bool, true, false, List, Option, Some, String, string_bytes, map, IsTrue}
use Rattle.fsmd_words.specs.AskedWords.{Asked, asked_of, Generate, Compile, Schedule, Bind, Shrink, Chain}
use Rattle.fsmd_replies.specs.AskedFiles.{is_check, compares, is_verify}

-- what these words ask
abbrev pub asked_by_words : {A : Type 0} → List (String A) → Option Asked
asked_by_words words = asked_of (map string_bytes words)

-- two machines are to be generated and compared
abbrev pub is_generate : Option Asked → Bool
is_generate (Some (Generate loops)) = true
is_generate _ = false

-- a program is to be compiled
abbrev pub is_compile : Option Asked → Bool
is_compile (Some (Compile program)) = true
is_compile _ = false

-- a machine is to be scheduled
abbrev pub is_schedule : Option Asked → Bool
is_schedule (Some (Schedule machine units)) = true
is_schedule _ = false

-- a machine is to be bound
abbrev pub is_bind : Option Asked → Bool
is_bind (Some (Bind machine binding)) = true
is_bind _ = false

-- inputs are to be made small
abbrev pub is_shrink : Option Asked → Bool
is_shrink (Some (Shrink left right inputs steps)) = true
is_shrink _ = false

-- a chain is to be checked
abbrev pub is_chain : Option Asked → Bool
is_chain (Some (Chain files)) = true
is_chain _ = false

-- it is asked to compare two machines, of files or generated
abbrev pub AskToCompare : Option Asked → Type 0
AskToCompare o = IsTrue (compares o)

-- it is asked to compare two machines of files
abbrev pub AskToCheck : Option Asked → Type 0
AskToCheck o = IsTrue (is_check o)

-- it is asked to generate two machines and to compare them
abbrev pub AskToGenerate : Option Asked → Type 0
AskToGenerate o = IsTrue (is_generate o)

-- it is asked to check a certificate
abbrev pub AskToVerify : Option Asked → Type 0
AskToVerify o = IsTrue (is_verify o)

-- it is asked to compile a program
abbrev pub AskToCompile : Option Asked → Type 0
AskToCompile o = IsTrue (is_compile o)

-- it is asked to schedule a machine
abbrev pub AskToSchedule : Option Asked → Type 0
AskToSchedule o = IsTrue (is_schedule o)

-- it is asked to bind a machine
abbrev pub AskToBind : Option Asked → Type 0
AskToBind o = IsTrue (is_bind o)

-- it is asked to make inputs small
abbrev pub AskToShrink : Option Asked → Type 0
AskToShrink o = IsTrue (is_shrink o)

-- it is asked to check a chain
abbrev pub AskToChain : Option Asked → Type 0
AskToChain o = IsTrue (is_chain o)
