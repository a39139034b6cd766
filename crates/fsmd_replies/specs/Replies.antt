-- The bytes that each answer puts.
use Rattle.std.specs.Prelude.{ℕ, List, [], ◌++◌, Option, Some, None, codes, decimal}
use Rattle.fsmd_words.specs.AskedWords.{Asked, Generate}
use Rattle.fs_grammar.specs.declared.fault.TextKind.{TextKind}
use Rattle.fs_grammar.specs.declared.fault.TextKind.TheVariants.{BadByte, BadWord, NumberTooBig, Unexpected, Operators, Nested}
use Rattle.fs_grammar.specs.declared.fault.TextKind.TheVariants.{Ended}
use Rattle.fs_rules.specs.declared.check.CheckRule.{CheckRule}
use Rattle.fs_rules.specs.declared.check.CheckRule.TheVariants.{TwiceNamed, UnknownName, WrongSort, AssignInput, AssignedTwice}
use Rattle.fs_rules.specs.declared.check.CheckRule.TheVariants.{NoElse, AfterElse, TooManyBranches, EndlessLine, UnknownState}
use Rattle.fs_rules.specs.declared.check.CheckRule.TheVariants.{TooMany, TooManyEmits}
use Rattle.hls_unit_counts.specs.Counts.{kind_key}
use Rattle.cert_facts.specs.declared.faults.CertError.{CertError}
use Rattle.cert_facts.specs.declared.faults.CertError.TheVariants as cert_errors
use Rattle.fsmd_replies.specs.declared.answer.KeyFault.{KeyFault}
use Rattle.fsmd_replies.specs.declared.answer.KeyFault.TheVariants as keys
use Rattle.fsmd_replies.specs.declared.answer.Answer.{Answer}
use Rattle.fsmd_replies.specs.declared.answer.Answer.TheVariants.{Usage, Equivalent, Text, Differs, Undecided, Link, TextRefused}
use Rattle.fsmd_replies.specs.declared.answer.Answer.TheVariants.{CheckRefused, NotJson, KeyRefused, Over, CertRefused}
use Rattle.fsmd_replies.specs.declared.answer.Answer.TheVariants.{Interfaces, TooLong, CannotRead}
use Rattle.fsmd_replies.specs.AskedFiles.{file_word_of}

-- the name of what is wrong in a text
abbrev pub kind_name : TextKind → List ℕ
kind_name BadByte = codes "BadByte"
kind_name BadWord = codes "BadWord"
kind_name NumberTooBig = codes "NumberTooBig"
kind_name Unexpected = codes "Unexpected"
kind_name Operators = codes "Operators"
kind_name Nested = codes "Nested"
kind_name Ended = codes "Ended"

-- the name of a broken rule
abbrev pub rule_name : CheckRule → List ℕ
rule_name TwiceNamed = codes "TwiceNamed"
rule_name UnknownName = codes "UnknownName"
rule_name WrongSort = codes "WrongSort"
rule_name AssignInput = codes "AssignInput"
rule_name AssignedTwice = codes "AssignedTwice"
rule_name NoElse = codes "NoElse"
rule_name AfterElse = codes "AfterElse"
rule_name TooManyBranches = codes "TooManyBranches"
rule_name EndlessLine = codes "EndlessLine"
rule_name UnknownState = codes "UnknownState"
rule_name TooMany = codes "TooMany"
rule_name TooManyEmits = codes "TooManyEmits"

-- the name of what is wrong at a key of a file
abbrev pub key_fault_name : KeyFault → List ℕ
key_fault_name keys.Shape = codes "Shape"
key_fault_name keys.UnknownName = codes "UnknownName"
key_fault_name keys.NumberTooBig = codes "NumberTooBig"
key_fault_name keys.BadName = codes "BadName"
key_fault_name keys.Taken = codes "Taken"

-- the name of what is wrong in a file of a certificate
abbrev pub cert_error_name : CertError → List ℕ
cert_error_name cert_errors.NotJson = codes "NotJson"
cert_error_name cert_errors.Shape = codes "Shape"
cert_error_name (cert_errors.UnknownState node) = codes "UnknownState"
cert_error_name (cert_errors.NotCutpoint node) = codes "NotCutpoint"
cert_error_name (cert_errors.UnknownName node) = codes "UnknownName"
cert_error_name (cert_errors.SortOf node) = codes "SortOf"
cert_error_name (cert_errors.NotSolved node place) = codes "NotSolved"
cert_error_name (cert_errors.TwiceNode node) = codes "TwiceNode"
cert_error_name (cert_errors.NumberTooBig node) = codes "NumberTooBig"
cert_error_name cert_errors.TooMany = codes "TooMany"
cert_error_name cert_errors.NoMemory = codes "NoMemory"
cert_error_name (cert_errors.BadTerm node) = codes "BadTerm"
cert_error_name (cert_errors.NotNormal node) = codes "NotNormal"

-- the node where something is wrong, from 0, if it is of a node
abbrev pub node_in : CertError → Option ℕ
node_in (cert_errors.UnknownState node) = Some node
node_in (cert_errors.NotCutpoint node) = Some node
node_in (cert_errors.UnknownName node) = Some node
node_in (cert_errors.SortOf node) = Some node
node_in (cert_errors.NotSolved node place) = Some node
node_in (cert_errors.TwiceNode node) = Some node
node_in (cert_errors.NumberTooBig node) = Some node
node_in (cert_errors.BadTerm node) = Some node
node_in (cert_errors.NotNormal node) = Some node
node_in _ = None

abbrev pub node_count_text : Option ℕ → List ℕ
node_count_text None = []
node_count_text (Some node) = codes " node " ++ decimal node

-- the line with which each reply to what is asked begins: of generated machines their number of loops
abbrev pub opening_line : Option Asked → List ℕ
opening_line (Some (Generate loops)) = codes "generated: " ++ (decimal loops ++ codes " loops\n")
opening_line _ = []

-- the line that machines of the same behaviour get
abbrev pub equivalent_text : (nodes : ℕ) → List ℕ
equivalent_text nodes = codes "equivalent: " ++ (decimal nodes ++ codes " nodes\n")

-- the line that a refused file begins with
abbrev pub refused_text : List ℕ → List ℕ → List ℕ
refused_text word rest = codes "bad input: " ++ (word ++ rest)

-- the lines of each answer to what is asked
abbrev pub lines_of : Answer → Option Asked → List ℕ
lines_of Usage asked =
    codes "usage: fsmd check A B [--cert F] [--steps N] | verify A B C | run A I [--steps N] | replay A B I [--steps N] | fmt A | cuts A | generate N | compile P | schedule A U | bind A M | shrink A B I [--steps N] | chain A C B [C B ..]\n"
lines_of (Equivalent nodes cert) asked = equivalent_text nodes
lines_of (Text lines) asked = lines
lines_of (Differs lines) asked = lines
lines_of (Undecided lines) asked = lines
lines_of (Link status lines) asked = lines
lines_of (TextRefused file fault) asked =
    refused_text (file_word_of asked file)
    (codes ":"
    ++ (decimal fault.line ++ (codes ":" ++ (decimal fault.column ++ (codes ": " ++ (kind_name fault.kind ++ codes "\n"))))))
lines_of (CheckRefused file fault) asked =
    refused_text (file_word_of asked file)
    (codes ":" ++ (decimal fault.line ++ (codes ": " ++ (rule_name fault.rule ++ codes "\n"))))
lines_of (NotJson file) asked = refused_text (file_word_of asked file) (codes ": NotJson\n")
lines_of (KeyRefused file fault key) asked =
    refused_text (file_word_of asked file) (codes ": " ++ (key_fault_name fault ++ (codes " " ++ (key ++ codes "\n"))))
lines_of (Over file state unit) asked =
    refused_text (file_word_of asked file) (codes ": Over " ++ (state ++ (codes " " ++ (kind_key unit ++ codes "\n"))))
lines_of (CertRefused file error) asked =
    refused_text (file_word_of asked file)
    (codes ": " ++ (cert_error_name error ++ (node_count_text (node_in error) ++ codes "\n")))
lines_of (Interfaces name) asked = codes "bad input: interface: " ++ (name ++ codes "\n")
lines_of (TooLong file limit) asked = refused_text (file_word_of asked file)
    (codes ": longer than " ++ (decimal limit ++ codes " bytes\n"))
lines_of (CannotRead file) asked = codes "fault: cannot read " ++ (file_word_of asked file ++ codes "\n")

-- the reply of each answer to what is asked
abbrev pub reply : Answer → Option Asked → List ℕ
reply answer asked = opening_line asked ++ lines_of answer asked

-- the reply where the certificate could not be stored
abbrev pub unstored_reply : (name : List ℕ) → List ℕ
unstored_reply name = codes "fault: cannot write " ++ (name ++ codes "\n")
