-- What reading gives, by the grammar.
use Rattle.std.proofs.Common.{ℕ, List}
use Rattle.std.specs.Prelude.{Result, Ok, Err, IfOk, IsTrue}
use Rattle.std.specs.Result.{IfErr}
use Rattle.fs_model.specs.Source.{Source}
use Rattle.fs_model.specs.WellFormed.{is_well_formed}
use Rattle.fs_grammar.specs.declared.fault.ReadError.{ReadError}
use Rattle.fs_grammar.specs.declared.fault.ReadError.TheVariants.{Text, NoMemory}
use Rattle.fs_grammar.specs.Tokens.{Gives}
use Rattle.fs_lex.specs.Scan.{tokens_of}
use Rattle.fs_grammar.specs.Faults.{Spells, StopsAt}
use Rattle.fs_grammar.proofs.Exact.{read_is_spelled, fault_is_first}
use Rattle.fs_lex.specs.Tokenization.{IsTokenIn}
use Rattle.fs_lex.specs.Limit.{SpellWithin, StopWithin}
use Rattle.fs_lex.proofs.Ended.{tokens_ended}
use Rattle.fs_lex.proofs.Limit.{spelled_found, fault_stands}
use Rattle.fs_lex.proofs.Read.{read_is_well_formed}
use Rattle.fs_lex.specs.MachineTexts.{TextSpells, TextStops}
use Rattle.fs_lex.proofs.Texts as texts
use Rattle.fs_text.specs.SourceOfText.{source_spelled, IfText}

module _ {P : Type 0} (view : P → Source) (bytes : List ℕ) where
  pub spells : (r : Result P ReadError) → Gives view r (source_spelled bytes) → IfOk r (λ p. Spells (view p) (tokens_of bytes))
  spells (Ok p) e = read_is_spelled (view p) (tokens_of bytes) e
  spells (Err e) h = tt

  pub well_formed : (r : Result P ReadError) → Gives view r (source_spelled bytes) → IfOk r (λ p. IsTrue (is_well_formed (view p)))
  well_formed (Ok p) e = read_is_well_formed bytes (view p) e
  well_formed (Err e) h = tt

  pub fault : (r : Result P ReadError) → Gives view r (source_spelled bytes) → IfErr r (λ e. IfText e (StopsAt (tokens_of bytes)))
  fault (Ok p) e = tt
  fault (Err (Text f)) e = fault_is_first (tokens_of bytes) f (tokens_ended bytes) e
  fault (Err NoMemory) e = tt

  pub within : (r : Result P ReadError) → Gives view r (source_spelled bytes) → IfOk r (λ p. SpellWithin (tokens_of bytes) (view p))
  within (Ok p) e = spelled_found bytes (view p) e
  within (Err e) h = tt

  pub stops : (r : Result P ReadError) → Gives view r (source_spelled bytes)
      → IfErr r (λ e. IfText e (λ f. (s : StopWithin (tokens_of bytes) f) × IsTokenIn bytes s.token))
  stops (Ok p) e = tt
  stops (Err (Text f)) e = fault_stands bytes f e
  stops (Err NoMemory) e = tt

  pub text : (r : Result P ReadError) → Gives view r (source_spelled bytes) → IfOk r (λ p. TextSpells bytes (view p))
  text (Ok p) e = texts.spells bytes (view p) e
  text (Err e) h = tt

  pub faulty : (r : Result P ReadError) → Gives view r (source_spelled bytes) → IfErr r (λ e. IfText e (TextStops bytes))
  faulty (Ok p) e = tt
  faulty (Err (Text f)) e = texts.stops bytes f e
  faulty (Err NoMemory) e = tt
