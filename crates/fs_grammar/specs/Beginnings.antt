-- Which words begin which rule of the grammar.
use Rattle.std.specs.Prelude.{ℕ, ℤ, List, [], ◌∷◌, ◌++◌, Option}
use Rattle.fs_model.specs.declared.parts.Rel.{Rel}
use Rattle.fs_model.specs.declared.parts.Role.{Role}
use Rattle.fs_model.specs.declared.parts.Sort.{Sort}
use Rattle.fs_model.specs.Expressions.{Expression, Guard, Assignment}
use Rattle.fs_model.specs.Source.{Declaration, SourceTransition, SourceState, Source}
use Rattle.fs_grammar.specs.declared.format.Format.{Format}
use Rattle.fs_grammar.specs.declared.format.Format.TheVariants.{Two}
use Rattle.fs_grammar.specs.declared.token.TokenKind.{TokenKind}
use Rattle.fs_grammar.specs.declared.token.TokenKind.TheVariants.{Fsmd, Declare, Array, Reset, State, When, Goto, Emit, Port}
use Rattle.fs_grammar.specs.declared.token.TokenKind.TheVariants.{Name, Number, Semicolon, Colon, Comma, Equals, OpenParen}
use Rattle.fs_grammar.specs.declared.token.TokenKind.TheVariants.{CloseParen, OpenBracket, CloseBracket, OpenBrace, CloseBrace}
use Rattle.fs_grammar.specs.declared.token.TokenKind.TheVariants.{Plus, Minus, Star, Slash, Percent, Bang, AndAnd, OrOr, Relation}
use Rattle.fs_grammar.specs.Formats.{format_number}
use Rattle.fs_grammar.specs.Grammar.{Destination}
use Rattle.fs_grammar.specs.Spelling.{Word, at, IsFactor, IsProduct, IsSum, IsUnit, IsConjunction, IsGuard, IsDestination}
use Rattle.fs_grammar.specs.Spelling.{IsAssignment, AreAssignments, AreEffects, IsCondition, IsTransition, AreTransitions}
use Rattle.fs_grammar.specs.Spelling.{IsState, AreStates, AreNames, IsKind, IsDeclaration, AreDeclarations, IsFile}

-- the rules of the grammar; some are other ones in texts of format 2
pub data Rule : Type 0 where
  factor : Rule
  product : Rule
  sum : Rule
  unit : Rule
  conjunction : Rule
  guard : Rule
  destination : Rule
  assignment : Format → Rule
  assignments : Format → Rule
  effects : Format → Rule
  condition : Rule
  transition : Format → Rule
  transitions : Format → Rule
  state : Format → Rule
  states : Format → Rule
  names : Rule
  kind : Format → Rule
  declaration : Format → Rule
  declarations : Format → Rule
  file : Rule

-- a part of an alternative: a token, or what a rule spells
pub data Part : Type 0 where
  token : TokenKind → Part
  rule : Rule → Part

-- The alternatives of each rule, by their parts in order. A chain or a list is one part, or a shorter chain or list and one more.
pub data IsAlternative : Rule → List Part → Type 0 where
  -- factor = number | name [ "[" sum "]" ] | "-" factor | "(" sum ")"
  number : (i : ℤ) → IsAlternative factor (token (Number i) ∷ [])
  variable : (x : List ℕ) → IsAlternative factor (token (Name x) ∷ [])
  read : (x : List ℕ) → IsAlternative factor (token (Name x) ∷ token OpenBracket ∷ rule sum ∷ token CloseBracket ∷ [])
  negative : IsAlternative factor (token Minus ∷ rule factor ∷ [])
  group : IsAlternative factor (token OpenParen ∷ rule sum ∷ token CloseParen ∷ [])
  -- product = factor { ( "*" | "/" | "%" ) factor }
  one_factor : IsAlternative product (rule factor ∷ [])
  times : IsAlternative product (rule product ∷ token Star ∷ rule factor ∷ [])
  divides : IsAlternative product (rule product ∷ token Slash ∷ rule factor ∷ [])
  remainder_of : IsAlternative product (rule product ∷ token Percent ∷ rule factor ∷ [])
  -- sum = product { ( "+" | "-" ) product }
  one_product : IsAlternative sum (rule product ∷ [])
  plus : IsAlternative sum (rule sum ∷ token Plus ∷ rule product ∷ [])
  minus : IsAlternative sum (rule sum ∷ token Minus ∷ rule product ∷ [])
  -- unit = "!" unit | "{" guard "}" | sum relation sum
  not : IsAlternative unit (token Bang ∷ rule unit ∷ [])
  braces : IsAlternative unit (token OpenBrace ∷ rule guard ∷ token CloseBrace ∷ [])
  literal : (r : Rel) → IsAlternative unit (rule sum ∷ token (Relation r) ∷ rule sum ∷ [])
  -- conjunction = unit { "&&" unit }
  one_unit : IsAlternative conjunction (rule unit ∷ [])
  and : IsAlternative conjunction (rule conjunction ∷ token AndAnd ∷ rule unit ∷ [])
  -- guard = conjunction { "||" conjunction }
  one_conjunction : IsAlternative guard (rule conjunction ∷ [])
  or : IsAlternative guard (rule guard ∷ token OrOr ∷ rule conjunction ∷ [])
  -- destination = name [ "[" sum "]" ]
  scalar_name : (x : List ℕ) → IsAlternative destination (token (Name x) ∷ [])
  element_at : (x : List ℕ) → IsAlternative destination (token (Name x) ∷ token OpenBracket ∷ rule sum ∷ token CloseBracket ∷ [])
  -- assignment = destination "=" sum, in format 2 also "emit" name sum
  assigned : (f : Format) → IsAlternative (assignment f) (rule destination ∷ token Equals ∷ rule sum ∷ [])
  emitted : (x : List ℕ) → IsAlternative (assignment Two) (token Emit ∷ token (Name x) ∷ rule sum ∷ [])
  -- assignments = assignment { "," assignment }
  one_assignment : (f : Format) → IsAlternative (assignments f) (rule (assignment f) ∷ [])
  more_assignments : (f : Format) → IsAlternative (assignments f) (rule (assignments f) ∷ token Comma ∷ rule (assignment f) ∷ [])
  -- effects = [ ":" assignments ]
  no_effects : (f : Format) → IsAlternative (effects f) []
  some_effects : (f : Format) → IsAlternative (effects f) (token Colon ∷ rule (assignments f) ∷ [])
  -- condition = [ "when" guard ] "goto"
  always : IsAlternative condition (token Goto ∷ [])
  when : IsAlternative condition (token When ∷ rule guard ∷ token Goto ∷ [])
  -- transition = condition name effects ";"
  one_transition : (f : Format) (x : List ℕ)
      → IsAlternative (transition f) (rule condition ∷ token (Name x) ∷ rule (effects f) ∷ token Semicolon ∷ [])
  -- transitions = { transition }
  no_transitions : (f : Format) → IsAlternative (transitions f) []
  more_transitions : (f : Format) → IsAlternative (transitions f) (rule (transitions f) ∷ rule (transition f) ∷ [])
  -- state = "state" name ":" transitions
  one_state : (f : Format) (x : List ℕ)
      → IsAlternative (state f) (token State ∷ token (Name x) ∷ token Colon ∷ rule (transitions f) ∷ [])
  -- states = { state }
  no_states : (f : Format) → IsAlternative (states f) []
  more_states : (f : Format) → IsAlternative (states f) (rule (states f) ∷ rule (state f) ∷ [])
  -- names = name { "," name }
  one_name : (x : List ℕ) → IsAlternative names (token (Name x) ∷ [])
  more_names : (x : List ℕ) → IsAlternative names (rule names ∷ token Comma ∷ token (Name x) ∷ [])
  -- kind = ( "input" | "output" | "local" ) [ "array" ], in format 2 also "port"
  scalars : (f : Format) (r : Role) → IsAlternative (kind f) (token (Declare r) ∷ [])
  arrays : (f : Format) (r : Role) → IsAlternative (kind f) (token (Declare r) ∷ token Array ∷ [])
  ports : IsAlternative (kind Two) (token Port ∷ [])
  -- declaration = kind names ";"
  one_declaration : (f : Format) → IsAlternative (declaration f) (rule (kind f) ∷ rule names ∷ token Semicolon ∷ [])
  -- declarations = { declaration }
  no_declarations : (f : Format) → IsAlternative (declarations f) []
  more_declarations : (f : Format) → IsAlternative (declarations f) (rule (declarations f) ∷ rule (declaration f) ∷ [])
  -- file = "fsmd" format ";" declarations "reset" name ";" states, where the format is the number 1 or 2
  one_file : (f : Format) (x : List ℕ)
      → IsAlternative file
      (token Fsmd ∷ token (Number (format_number f)) ∷ token Semicolon ∷ rule (declarations f) ∷ token Reset ∷ token (Name x)
      ∷ token Semicolon ∷ rule (states f) ∷ [])

-- words that a rule spells whole
abbrev pub SpellsWhole : Rule → List Word → Type 0
SpellsWhole factor ws = (f : Expression (List ℕ)) × IsFactor f ws
SpellsWhole product ws = (p : Expression (List ℕ)) × IsProduct p ws
SpellsWhole sum ws = (s : Expression (List ℕ)) × IsSum s ws
SpellsWhole unit ws = (u : Guard (List ℕ)) × IsUnit u ws
SpellsWhole conjunction ws = (c : Guard (List ℕ)) × IsConjunction c ws
SpellsWhole guard ws = (g : Guard (List ℕ)) × IsGuard g ws
SpellsWhole destination ws = (d : Destination) × IsDestination d ws
SpellsWhole (assignment f) ws = (x : Assignment (List ℕ)) × IsAssignment f x ws
SpellsWhole (assignments f) ws = (xs : List (Assignment (List ℕ))) × AreAssignments f xs ws
SpellsWhole (effects f) ws = (xs : List (Assignment (List ℕ))) × AreEffects f xs ws
SpellsWhole condition ws = (n : ℕ) × (g : Option (Guard (List ℕ))) × IsCondition n g ws
SpellsWhole (transition f) ws = (l : SourceTransition) × IsTransition f l ws
SpellsWhole (transitions f) ws = (ls : List SourceTransition) × AreTransitions f ls ws
SpellsWhole (state f) ws = (s : SourceState) × IsState f s ws
SpellsWhole (states f) ws = (ss : List SourceState) × AreStates f ss ws
SpellsWhole names ws = (xs : List (List ℕ)) × AreNames xs ws
SpellsWhole (kind f) ws = (n : ℕ) × (r : Role) × (s : Sort) × IsKind f n r s ws
SpellsWhole (declaration f) ws = (d : Declaration) × IsDeclaration f d ws
SpellsWhole (declarations f) ws = (ds : List Declaration) × AreDeclarations f ds ws
SpellsWhole file ws = (f : Format) × (s : Source) × IsFile f s ws

-- whole spellings of all these parts in order
pub data AreSpelled : List Part → List Word → Type 0 where
  no_part : AreSpelled [] []
  token_first : (n : ℕ) (t : TokenKind) {ps : List Part} {ws : List Word} → AreSpelled ps ws
      → AreSpelled (token t ∷ ps) (at n t ∷ ws)
  rule_first : (r : Rule) (a : List Word) {ps : List Part} {b : List Word} → SpellsWhole r a → AreSpelled ps b
      → AreSpelled (rule r ∷ ps) (a ++ b)

mutual
  -- No words begin every rule. Others begin a rule where they begin the parts of one of its alternatives.
  pub data Begins : Rule → List Word → Type 0 where
    nothing : (r : Rule) → Begins r []
    by_parts : (r : Rule) {ps : List Part} {ws : List Word} → IsAlternative r ps → BeginParts ps ws → Begins r ws

  -- They are whole spellings of the first parts in order, perhaps of none, followed by nothing or by words that begin the next
  -- part.
  pub data BeginParts : List Part → List Word → Type 0 where
    by_nothing : (ps : List Part) → BeginParts ps []
    by_next : (r : Rule) (ps : List Part) {ws : List Word} → Begins r ws → BeginParts (rule r ∷ ps) ws
    token_whole : (n : ℕ) (t : TokenKind) {ps : List Part} {ws : List Word} → BeginParts ps ws
        → BeginParts (token t ∷ ps) (at n t ∷ ws)
    rule_whole : (r : Rule) (a : List Word) {ps : List Part} {b : List Word} → SpellsWhole r a → BeginParts ps b
        → BeginParts (rule r ∷ ps) (a ++ b)

-- words that begin a file
abbrev pub BeginsFile : List Word → Type 0
BeginsFile ws = Begins file ws
