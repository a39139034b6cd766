-- A block that is too deep by the grammar is one that the reading finds too deep.
use Rattle.std.proofs.Common.{◌≡◌, ℕ, suc, ◌<◌, List, [], ◌∷◌, ◌++◌, Option, Some, None, refl, sym, ap, subst, ◌∙◌, append_assoc, lt-ltb}
use Rattle.std.specs.Prelude.{true, IfSome}
use Rattle.std.proofs.lemmas.Bool.{ltb-true}
use Rattle.fs_grammar.specs.declared.token.TokenKind.{TokenKind}
use Rattle.fs_grammar.specs.declared.token.TokenKind.TheVariants.{If as IfWord, Else, While as WhileWord, OpenBrace}
use Rattle.fs_grammar.specs.Spelling.{Word, at}
use Rattle.fs_expression_text.specs.Inside.{whole_guard, at_guard, guard_alone}
use Rattle.fs_phrase_text.specs.Expressions.{a_guard}
use Rattle.hls_program_parts.specs.Programs.{End}
use Rattle.hls_program_parts.specs.WellFormedPrograms.{most_depth}
use Rattle.hls_program_parts.specs.ProgramGrammar as machine
use Rattle.hls_program_parts.specs.ProgramGrammar.{Named, Open, depth_of, in_yes, in_no, in_body, for_if, for_while, ProgramParseState, at_prog, at_block}
use Rattle.hls_program_parts.specs.ProgramGrammar.{at_statement, inside, after, is_deep, program_step}
use Rattle.hls_program_parts.specs.ProgramBeginnings.{OpensBlock, outermost, yes_block, no_block, body, IsInBlock, opened}
use Rattle.hls_program_parts.specs.ProgramLimits.{token_kind_of, IsTooDeep}
use Rattle.hls_program_parts.proofs.Walks.{walk, walk_more}
use Rattle.hls_program_parts.proofs.Closers.{brace_closes}
use Rattle.hls_program_parts.proofs.Complete.{GoesOn, regroup, hole_walks, guard_walks, block_begins, block_walks, statements_walk, declarations_walk}
use Rattle.hls_program_parts.proofs.Reached as before
use Rattle.hls_program_parts.proofs.Reached.{BeforeBlock, IsWithin, IsOpened, Reached}
use Rattle.hls_program_parts.proofs.Sound.{keeps, reached}

-- ---- from the reading to the grammar

mutual
  pub opens_block : (o : Open) (a : List Word) → BeforeBlock o a → OpensBlock (depth_of o) a
  opens_block _ _ (before.outermost ds a h) = subst (λ (l : List Word). OpensBlock 0 l) (sym h.is) (outermost h.n h.m h.declarations)
  opens_block _ _ (before.in_yes n o b g a c h p) = yes_block (depth_of o) n (in_block o b a h) p
  opens_block _ _ (before.in_no n m o b g y a c d h p q) = no_block (depth_of o) n m (in_block o b a h) p q
  opens_block _ _ (before.in_body n o b g a c h p) = body (depth_of o) n (in_block o b a h) p

  pub in_block : (o : Open) (b : Named) (a : List Word) → IsWithin o b a → IsInBlock (depth_of o) a
  in_block _ _ _ (before.opened n o b a c h p) = opened (depth_of o) n (opens_block o a h) p

snoc_same : (a b : List Word) (v w : Word) → a ++ v ∷ [] ≡ b ++ w ∷ [] → (a ≡ b) × (v ≡ w)
snoc_same [] [] v w e = (refl, cc)
snoc_same [] (x ∷ []) v w e = absurd cc
snoc_same [] (x ∷ y ∷ b) v w e = absurd cc
snoc_same (x ∷ []) [] v w e = absurd cc
snoc_same (x ∷ y ∷ a) [] v w e = absurd cc
snoc_same (x ∷ a) (y ∷ b) v w e =
    let heads : x ≡ y = cc in
    let tails : a ++ v ∷ [] ≡ b ++ w ∷ [] = cc in
    let same = snoc_same a b v w tails in
    (ap (λ (l : List Word). x ∷ l) same.0 ∙ ap (λ (z : Word). z ∷ b) heads, same.1)

of_some : (P : ProgramParseState → Type 0) (o : Option ProgramParseState) (r : ProgramParseState) → IfSome o P → o ≡ Some r → P r
of_some P None r h e = absurd cc
of_some P (Some s) r h e =
    let same : s ≡ r = cc in
    subst P same h

deep_at : (ws : List Word) (n : ℕ) (t : TokenKind) (o : Open) → IsOpened o (ws ++ at n t ∷ []) → most_depth < depth_of o → IsTooDeep ws (at n t)
deep_at ws n t o k d =
    let same = snoc_same ws k.a (at n t) (at k.n OpenBrace) k.is in
    record {
      brace = ap token_kind_of same.1;
      depth = depth_of o;
      opens = subst (λ (l : List Word). OpensBlock (depth_of o) l) (sym same.0) (opens_block o k.a k.before);
      deep = d;
    }

deep_by : (r : ProgramParseState) (ws : List Word) (n : ℕ) (t : TokenKind) → Reached r (ws ++ at n t ∷ []) → is_deep r ≡ true → IsTooDeep ws (at n t)
deep_by (at_block o) ws n t k e = deep_at ws n t o k (ltb-true most_depth (depth_of o) e)
deep_by _ ws n t k e = absurd cc

-- a word that opens a block too deep for the reading is one that does by the grammar
pub deep_found : (ws : List Word) (s r : ProgramParseState) (n : ℕ) (t : TokenKind) → walk ws at_prog ≡ Some s → program_step s n t ≡ Some r → is_deep r ≡ true
    → IsTooDeep ws (at n t)
deep_found ws s r n t q e d =
    deep_by r ws n t (of_some (λ (p : ProgramParseState). Reached p (ws ++ at n t ∷ [])) (program_step s n t) r (keeps s n t ws (reached ws s q)) e) d

-- ---- from the grammar to the reading

-- The parse state to which a brace behind the words leads.
record BlockAt (d : ℕ) (a : List Word) : Type 0 where
  open_blocks : Open
  depth : depth_of open_blocks ≡ d
  leads : (n : ℕ) (rest : List Word) → walk (a ++ at n OpenBrace ∷ rest) at_prog ≡ walk rest (at_block open_blocks)

-- The parse state to which the words lead.
record StatementAt (d : ℕ) (a : List Word) : Type 0 where
  open_blocks : Open
  read : Named
  depth : depth_of open_blocks ≡ d
  leads : (rest : List Word) → GoesOn rest → walk (a ++ rest) at_prog ≡ walk rest (at_statement open_blocks read)

mutual
  opens_walks : (d : ℕ) (a : List Word) → OpensBlock d a → BlockAt d a
  opens_walks _ _ (outermost n m {ds} {a} p) = record {
    open_blocks = machine.outermost ds;
    depth = refl;
    leads = λ k rest. declarations_walk ds a p (at k OpenBrace ∷ rest);
  }
  opens_walks _ _ (yes_block d n {g} {a} {b} h p) =
      let s = in_block_walks d a h in
      record {
        open_blocks = in_yes s.open_blocks s.read n g;
        depth = ap suc s.depth;
        leads = λ k rest. regroup a (at n IfWord ∷ b) (at k OpenBrace ∷ rest) at_prog ∙ s.leads (at n IfWord ∷ (b ++ at k OpenBrace ∷ rest)) tt
            ∙ hole_walks (for_if s.open_blocks s.read n) a_guard (whole_guard g) b rest k OpenBrace brace_closes p;
      }
  opens_walks _ _ (no_block d n m {g} {y} {a} {b} {c} h p q) =
      let s = in_block_walks d a h in
      record {
        open_blocks = in_no s.open_blocks s.read n g y;
        depth = ap suc s.depth;
        leads = λ k rest. regroup a (at n IfWord ∷ (b ++ (c ++ at m Else ∷ []))) (at k OpenBrace ∷ rest) at_prog
            ∙ s.leads (at n IfWord ∷ ((b ++ (c ++ at m Else ∷ [])) ++ at k OpenBrace ∷ rest)) tt
            ∙ regroup b (c ++ at m Else ∷ []) (at k OpenBrace ∷ rest) (inside (for_if s.open_blocks s.read n) (at_guard guard_alone))
            ∙ ap (λ (l : List Word). walk (b ++ l) (inside (for_if s.open_blocks s.read n) (at_guard guard_alone)))
            (append_assoc c (at m Else ∷ []) (at k OpenBrace ∷ rest))
            ∙ guard_walks (for_if s.open_blocks s.read n) g b p y c q (at m Else ∷ at k OpenBrace ∷ rest)
            ∙ block_walks y c q (in_yes s.open_blocks s.read n g) (after (for_if s.open_blocks s.read n) (whole_guard g)) (λ j. refl)
            (at m Else ∷ at k OpenBrace ∷ rest);
      }
  opens_walks _ _ (body d n {g} {a} {b} h p) =
      let s = in_block_walks d a h in
      record {
        open_blocks = in_body s.open_blocks s.read n g;
        depth = ap suc s.depth;
        leads = λ k rest. regroup a (at n WhileWord ∷ b) (at k OpenBrace ∷ rest) at_prog ∙ s.leads (at n WhileWord ∷ (b ++ at k OpenBrace ∷ rest)) tt
            ∙ hole_walks (for_while s.open_blocks s.read n) a_guard (whole_guard g) b rest k OpenBrace brace_closes p;
      }

  in_block_walks : (d : ℕ) (a : List Word) → IsInBlock d a → StatementAt d a
  in_block_walks _ _ (opened d n {b} {a} {c} h p) =
      let s = opens_walks d a h in
      record {
        open_blocks = s.open_blocks;
        read = b;
        depth = s.depth;
        leads = λ rest g. regroup a (at n OpenBrace ∷ c) rest at_prog ∙ s.leads n (c ++ rest) ∙ block_begins c rest g s.open_blocks
            ∙ statements_walk b c p s.open_blocks End rest g;
      }

-- a brace that opens a block too deep by the grammar leads where the reading finds it
pub deep_step : (ws : List Word) (s : ProgramParseState) (n : ℕ) (t : TokenKind) → walk ws at_prog ≡ Some s → IsTooDeep ws (at n t)
    → (r : ProgramParseState) × (program_step s n t ≡ Some r) × (is_deep r ≡ true)
deep_step ws s n t q x =
    let k : BlockAt x.depth ws = opens_walks x.depth ws x.opens in
    let brace : program_step s n t ≡ program_step s n OpenBrace = ap (λ (u : TokenKind). program_step s n u) x.brace in
    let leads : program_step s n OpenBrace ≡ Some (at_block k.open_blocks) = sym (walk_more ws at_prog s n OpenBrace q) ∙ k.leads n [] in
    let deep : most_depth < depth_of k.open_blocks = subst (λ (d : ℕ). most_depth < d) (sym k.depth) x.deep in
    (at_block k.open_blocks, brace ∙ leads, lt-ltb most_depth (depth_of k.open_blocks) deep)
