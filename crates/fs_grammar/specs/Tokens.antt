-- Taking tokens from the front.
use Rattle.std.specs.Prelude.{◌≡◌, ℕ, cond, Option, Some, None, List, [], ◌∷◌, Result, Ok, Err}
use Rattle.fs_grammar.specs.declared.fault.TextKind.{TextKind}
use Rattle.fs_grammar.specs.declared.fault.TextKind.TheVariants.{BadByte, BadWord, NumberTooBig, Unexpected, Operators, Ended}
use Rattle.fs_grammar.specs.declared.fault.TextFault.{TextFault}
use Rattle.fs_grammar.specs.declared.fault.ReadError.{ReadError}
use Rattle.fs_grammar.specs.declared.fault.ReadError.TheVariants.{Text, NoMemory}
use Rattle.fs_grammar.specs.declared.token.Flaw.TheVariants.{Byte, Word, Number}
use Rattle.fs_grammar.specs.declared.token.TokenKind.{TokenKind}
use Rattle.fs_grammar.specs.declared.token.TokenKind.TheVariants.{Bad, End}
use Rattle.fs_grammar.specs.declared.token.Token.{Token}

-- one result after another, up to the first fault
infixl 10 ◌>>=◌
abbrev pub ◌>>=◌ : {A B : Type 0} → Result A TextFault → (A → Result B TextFault) → Result B TextFault
(Ok x) >>= f = f x
(Err e) >>= f = Err e

-- the reading stops at this fault, or there was no memory
abbrev pub Fails : {Y : Type 0} → ReadError → Result Y TextFault → Type 0
Fails NoMemory reading = Unit {0}
Fails (Text f) reading = reading ≡ Err f

-- what was answered, seen by view, is what the reading gives, or there was no memory
abbrev pub Gives : {X Y : Type 0} → (X → Y) → Result X ReadError → Result Y TextFault → Type 0
Gives view (Ok x) reading = reading ≡ Ok (view x)
Gives view (Err e) reading = Fails e reading

-- the whole reading goes on after x as next says, or stops at this fault, or there was no memory
abbrev pub ParsesOn : {X Y : Type 0} → Result X ReadError → Result Y TextFault → (X → Result Y TextFault) → Type 0
ParsesOn (Ok x) reading next = reading ≡ next x
ParsesOn (Err e) reading next = Fails e reading

-- what was made is so, or there was no memory
abbrev pub MadeAs : {X : Type 0} → Result X ReadError → (X → Type 0) → Type 0
MadeAs (Ok x) P = P x
MadeAs (Err e) P = e ≡ NoMemory

-- what the first token is
abbrev pub kind_at : List Token → Option TokenKind
kind_at [] = None
kind_at (t ∷ ts) = Some t.kind

-- the line of the first token
abbrev pub line_at : List Token → ℕ
line_at [] = 0
line_at (t ∷ ts) = t.place.line

-- the fault of a token that cannot follow
abbrev pub fault_of : TokenKind → TextKind
fault_of (Bad Byte) = BadByte
fault_of (Bad Word) = BadWord
fault_of (Bad Number) = NumberTooBig
fault_of End = Ended
fault_of _ = Unexpected

-- a fault at a token's place
abbrev pub fault_at : Token → TextKind → TextFault
fault_at t k = record { line = t.place.line; column = t.place.column; kind = k }

-- the fault at a first token that cannot follow
abbrev pub refusal : List Token → TextFault
refusal [] = record { line = 0; column = 0; kind = Ended }
refusal (t ∷ ts) = fault_at t (fault_of t.kind)

-- the tokens after a first one that can follow
abbrev pub tokens_after : List Token → Result (List Token) TextFault
tokens_after [] = Err (refusal [])
tokens_after (t ∷ ts) = cond t.past_limit (Err (fault_at t Operators)) (Ok ts)
