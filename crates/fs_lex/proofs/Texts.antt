-- What is read of bytes is what they spell, and what is refused is where they are faulty.
use Rattle.std.proofs.Common.{◌≡◌, ℕ, List, [], refl, inl, inr}
use Rattle.std.specs.Prelude.{◌⊎◌, Result, Ok, Err}
use Rattle.fs_model.specs.Source.{Source}
use Rattle.fs_grammar.specs.declared.fault.TextFault.{TextFault}
use Rattle.fs_grammar.specs.declared.token.Token.{Token}
use Rattle.fs_grammar.specs.Grammar.{at_start, reading}
use Rattle.fs_lex.specs.Scan.{tokens_of}
use Rattle.fs_lex.specs.Tokenization.{AreTokens}
use Rattle.fs_lex.proofs.Tokenized.{tokenized}
use Rattle.fs_lex.proofs.Unique.{one_list}
use Rattle.fs_lex.specs.MachineTexts.{TextSpells, TextStops}
use Rattle.fs_lex.proofs.Alike.{AreAlike, alike, spell_alike, stop_alike}
use Rattle.fs_lex.proofs.Limit.{spelled_found, spelled_only, fault_found, fault_only}

made_alike : (bytes : List ℕ) (ts : List Token) → AreTokens [] bytes ts → AreAlike ts (tokens_of bytes)
made_alike bytes ts a = alike ts (tokens_of bytes) (one_list ts (tokens_of bytes) [] bytes a (tokenized bytes))

pub spells : (bytes : List ℕ) (s : Source) → reading (tokens_of bytes) at_start ≡ Ok s → TextSpells bytes s
spells bytes s e = record { tokens = tokens_of bytes; are = tokenized bytes; spell = spelled_found bytes s e }

pub reads : (bytes : List ℕ) (s : Source) → TextSpells bytes s → reading (tokens_of bytes) at_start ≡ Ok s
reads bytes s t = spelled_only bytes s (spell_alike t.tokens (tokens_of bytes) s (made_alike bytes t.tokens t.are) t.spell)

pub stops : (bytes : List ℕ) (f : TextFault) → reading (tokens_of bytes) at_start ≡ Err f → TextStops bytes f
stops bytes f e = record { tokens = tokens_of bytes; are = tokenized bytes; stop = fault_found bytes f e }

pub refuses : (bytes : List ℕ) (f : TextFault) → TextStops bytes f → reading (tokens_of bytes) at_start ≡ Err f
refuses bytes f t = fault_only bytes f (stop_alike t.tokens (tokens_of bytes) f (made_alike bytes t.tokens t.are) t.stop)

settled : (bytes : List ℕ) (r : Result Source TextFault) → reading (tokens_of bytes) at_start ≡ r
    → ((s : Source) × TextSpells bytes s) ⊎ ((f : TextFault) × TextStops bytes f)
settled bytes (Ok s) e = inl (s, spells bytes s e)
settled bytes (Err f) e = inr (f, stops bytes f e)

-- each text spells a source or has a fault
pub spells_or_stops : (bytes : List ℕ) → ((s : Source) × TextSpells bytes s) ⊎ ((f : TextFault) × TextStops bytes f)
spells_or_stops bytes = settled bytes (reading (tokens_of bytes) at_start) refl

same_source : (o : Result Source TextFault) (s r : Source) → o ≡ Ok s → o ≡ Ok r → s ≡ r
same_source o s r e g = cc

same_fault : (o : Result Source TextFault) (f g : TextFault) → o ≡ Err f → o ≡ Err g → f ≡ g
same_fault o f g e h = cc

differ : (o : Result Source TextFault) (s : Source) (f : TextFault) → o ≡ Ok s → o ≡ Err f → ⊥
differ o s f e g = cc

-- of sources one, of faults one, and not both
pub one_source : (bytes : List ℕ) (s r : Source) → TextSpells bytes s → TextSpells bytes r → s ≡ r
one_source bytes s r t u = same_source (reading (tokens_of bytes) at_start) s r (reads bytes s t) (reads bytes r u)

pub one_fault : (bytes : List ℕ) (f g : TextFault) → TextStops bytes f → TextStops bytes g → f ≡ g
one_fault bytes f g t u = same_fault (reading (tokens_of bytes) at_start) f g (refuses bytes f t) (refuses bytes g u)

pub spelled_text_never_stops : (bytes : List ℕ) (s : Source) (f : TextFault) → TextSpells bytes s → TextStops bytes f → ⊥
spelled_text_never_stops bytes s f t u = differ (reading (tokens_of bytes) at_start) s f (reads bytes s t) (refuses bytes f u)
