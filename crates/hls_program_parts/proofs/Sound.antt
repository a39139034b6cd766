-- What is read is spelled.
use Rattle.std.proofs.Common.{◌≡◌, ℕ, List, [], ◌∷◌, ◌++◌, Option, Some, None, refl, sym, ap, subst, ◌∙◌, append_assoc}
use Rattle.std.specs.Prelude.{IfSome}
use Rattle.std.proofs.lemmas.List.{append-nil}
use Rattle.fs_model.specs.Expressions.{Guard}
use Rattle.fs_model.specs.Source.{Declaration}
use Rattle.fs_grammar.specs.declared.format.Format.TheVariants.{One}
use Rattle.fs_grammar.specs.declared.token.TokenKind.{TokenKind}
use Rattle.fs_grammar.specs.declared.token.TokenKind.TheVariants.{Prog, If as IfWord, Else, While as WhileWord, Declare, Name, Semicolon, Equals, OpenBracket}
use Rattle.fs_grammar.specs.declared.token.TokenKind.TheVariants.{CloseBracket, OpenBrace, CloseBrace}
use Rattle.fs_grammar.specs.Grammar.{scalar, destination_assignment}
use Rattle.fs_grammar.specs.Spelling.{Word, at, scalar_name, element_at, assign, no_declarations, more_declarations}
use Rattle.fs_grammar.specs.WordWalks.{and_then}
use Rattle.fs_grammar.proofs.Reached.{Cut, Is}
use Rattle.fs_grammar.proofs.Sound.{snoc}
use Rattle.fs_expression_text.specs.Inside.{Inside, Whole, whole_sum, whole_guard, whole_at}
use Rattle.fs_expression_text.specs.Inside as inner
use Rattle.fs_phrase_text.specs.Expressions.{expression_start, SpellsExpression}
use Rattle.fs_phrase_text.proofs.SoundExpressions.{sound as sound_expression}
use Rattle.fs_phrase_text.proofs.Beginning.{walk_append as walk_append_inside}
use Rattle.fs_phrase_text.specs.Declaring.{Declaring, Lead}
use Rattle.fs_phrase_text.specs.Declaring as declaring
use Rattle.fs_phrase_text.specs.Declarations.{of_role}
use Rattle.fs_phrase_text.proofs.SoundDeclarations.{walk as walk_declaring, sound as sound_declaration}
use Rattle.fs_phrase_text.proofs.CompleteDeclarations.{walk_append as walk_append_declaring}
use Rattle.hls_program_parts.specs.Programs.{End, Do, If, While, Program, join_blocks}
use Rattle.hls_program_parts.specs.ProgramGrammar.{Named, Open, Hole, for_if, for_while, for_index, for_value, ProgramParseState, at_prog, after_prog}
use Rattle.hls_program_parts.specs.ProgramGrammar.{at_declaration, in_declaration, at_block, at_statement, after_name, at_equals, inside, after, after_yes}
use Rattle.hls_program_parts.specs.ProgramGrammar.{at_no, at_end, close_block, step_statement, step_after, step_inside, step_declaring, program_step}
use Rattle.hls_program_parts.specs.ProgramSpelling.{first_line, IsStatement, assigns, chooses, chooses_else, repeats, block, AreStatements, no_statements}
use Rattle.hls_program_parts.specs.ProgramSpelling.{more_statements, IsProgram, program}
use Rattle.hls_program_parts.proofs.Walks.{walk}
use Rattle.hls_program_parts.proofs.Complete.{destination_line}
use Rattle.hls_program_parts.proofs.Reached as before
use Rattle.hls_program_parts.proofs.Reached.{IsHead, BeforeBlock, IsWithin, IsOpened, IsDestinationAt, IsChoice, kind_of_hole, BeforeHole, LeadsInside}
use Rattle.hls_program_parts.proofs.Reached.{LeadsDeclaring, Reached}

-- words behind one word that is known
pub behind_word : {P : List Word → Type 0} (w : Word) (v c ws : List Word) (h : Cut P (Is (w ∷ [])) v) → ws ≡ v ++ c → ws ≡ h.a ++ (w ∷ c)
behind_word w v c ws h e = e ∙ ap (λ (l : List Word). l ++ c) (h.is ∙ ap (λ (l : List Word). h.a ++ l) h.back) ∙ append_assoc h.a (w ∷ []) c

-- ---- blocks that grow and end

pub within_more : (o : Open) (b : Named) (a : List Word) → IsWithin o b a → (s : Named) (d : List Word) → IsStatement s d → (ws : List Word) → ws ≡ a ++ d
    → IsWithin o (join_blocks b s) ws
within_more _ _ _ (before.opened n o b a c h p) s d q ws e =
    subst (λ (l : List Word). IsWithin o (join_blocks b s) l) (sym (e ∙ append_assoc a (at n OpenBrace ∷ c) d))
    (before.opened n o (join_blocks b s) a (c ++ d) h (more_statements p q))

choice_spelled : (n : ℕ) (g : Guard (List ℕ)) (y : Named) (ws : List Word) → IsChoice n g y ws → IsStatement (If n g y End End) ws
choice_spelled n g y ws h = subst (λ (l : List Word). IsStatement (If n g y End End) l) (sym h.is) (chooses n h.guard h.block)

-- a choice without `else` has been read
pub choice_within : (o : Open) (b : Named) (n : ℕ) (g : Guard (List ℕ)) (y : Named) (ws : List Word) → Cut (IsWithin o b) (IsChoice n g y) ws
    → IsWithin o (join_blocks b (If n g y End End)) ws
choice_within o b n g y ws h = within_more o b h.a h.front (If n g y End End) h.b (choice_spelled n g y h.b h.back) ws h.is

closed_by : (n k : ℕ) (o : Open) (a : List Word) → BeforeBlock o a → (b : Named) (c : List Word) → AreStatements b c → (ws : List Word)
    → ws ≡ a ++ (at k OpenBrace ∷ (c ++ at n CloseBrace ∷ [])) → Reached (close_block o b) ws
closed_by n k _ _ (before.outermost ds a h) b c p ws e =
    subst (λ (l : List Word). IsProgram (record { declarations = ds; body = b }) l)
    (sym (e ∙ ap (λ (l : List Word). l ++ (at k OpenBrace ∷ (c ++ at n CloseBrace ∷ []))) h.is)) (program h.n h.m h.declarations (block k n p))
closed_by n k _ _ (before.in_yes m o d g a v h q) b c p ws e = record {
  a = a;
  b = at m IfWord ∷ (v ++ (at k OpenBrace ∷ (c ++ at n CloseBrace ∷ [])));
  front = h;
  back = record { a = v; b = at k OpenBrace ∷ (c ++ at n CloseBrace ∷ []); guard = q; block = block k n p; is = refl };
  is = e ∙ append_assoc a (at m IfWord ∷ v) (at k OpenBrace ∷ (c ++ at n CloseBrace ∷ []));
}
closed_by n k _ _ (before.in_no m l o d g y a v u h q r) b c p ws e =
    within_more o d a h (If m g y b End) (at m IfWord ∷ (v ++ (u ++ (at l Else ∷ (at k OpenBrace ∷ (c ++ at n CloseBrace ∷ []))))))
    (chooses_else m l q r (block k n p)) ws (e ∙ simp append_assoc)
closed_by n k _ _ (before.in_body m o d g a v h q) b c p ws e =
    within_more o d a h (While m g b End) (at m WhileWord ∷ (v ++ (at k OpenBrace ∷ (c ++ at n CloseBrace ∷ []))))
    (repeats m q (block k n p)) ws (e ∙ append_assoc a (at m WhileWord ∷ v) (at k OpenBrace ∷ (c ++ at n CloseBrace ∷ [])))

-- the brace that closes the innermost block
pub block_closed : (n : ℕ) (o : Open) (b : Named) (ws : List Word) → IsWithin o b ws → Reached (close_block o b) (ws ++ at n CloseBrace ∷ [])
block_closed n _ _ _ (before.opened k o b a c h p) = closed_by n k o a h b c p ((a ++ (at k OpenBrace ∷ c)) ++ at n CloseBrace ∷ [])
    (append_assoc a (at k OpenBrace ∷ c) (at n CloseBrace ∷ []))

-- the first parse state of a block
pub opened_within : (o : Open) (ws : List Word) → IsOpened o ws → IsWithin o End ws
opened_within o ws h = subst (λ (l : List Word). IsWithin o End l) (sym h.is) (before.opened h.n o End h.a [] h.before no_statements)

-- ---- one more word

statement_keeps : (n : ℕ) (t : TokenKind) (o : Open) (b : Named) (ws : List Word) → IsWithin o b ws
    → IfSome (step_statement n t o b) (λ r. Reached r (ws ++ at n t ∷ []))
statement_keeps n (Name x) o b ws h = record { a = ws; b = at n (Name x) ∷ []; front = h; back = refl; is = refl }
statement_keeps n IfWord o b ws h = record {
  a = ws ++ at n IfWord ∷ [];
  b = [];
  front = record { a = ws; b = at n IfWord ∷ []; front = h; back = refl; is = refl };
  back = refl;
  is = sym (append-nil (ws ++ at n IfWord ∷ []));
}
statement_keeps n WhileWord o b ws h = record {
  a = ws ++ at n WhileWord ∷ [];
  b = [];
  front = record { a = ws; b = at n WhileWord ∷ []; front = h; back = refl; is = refl };
  back = refl;
  is = sym (append-nil (ws ++ at n WhileWord ∷ []));
}
statement_keeps n CloseBrace o b ws h = block_closed n o b ws h
statement_keeps n _ o b ws h = tt

-- a sum or a guard has been read, and its next word ends it
after_keeps : (n : ℕ) (t : TokenKind) (h : Hole) (w : Whole) (v c ws : List Word) → BeforeHole h v → SpellsExpression (kind_of_hole h) w c → ws ≡ v ++ c
    → IfSome (step_after t h w) (λ r. Reached r (ws ++ at n t ∷ []))
after_keeps n OpenBrace (for_if o b m) (whole_guard g) v c ws f s e = record {
  n = n;
  a = f.a ++ (at m IfWord ∷ c);
  before = before.in_yes m o b g f.a c f.front s;
  is = ap (λ (l : List Word). l ++ at n OpenBrace ∷ []) (behind_word (at m IfWord) v c ws f e);
}
after_keeps n OpenBrace (for_while o b m) (whole_guard g) v c ws f s e = record {
  n = n;
  a = f.a ++ (at m WhileWord ∷ c);
  before = before.in_body m o b g f.a c f.front s;
  is = ap (λ (l : List Word). l ++ at n OpenBrace ∷ []) (behind_word (at m WhileWord) v c ws f e);
}
after_keeps n CloseBracket (for_index o b m x) (whole_sum i) v c ws f s e = record {
  a = f.a;
  b = at m (Name x) ∷ at f.back.n OpenBracket ∷ (c ++ at n CloseBracket ∷ []);
  front = f.front;
  back = record { spelled = element_at m f.back.n n x s; line = refl };
  is = rw (e, f.is, f.back.is, f.back.front) (simp append_assoc);
}
after_keeps n Semicolon (for_value o b m d) (whole_sum x) v c ws f s e =
    let line : first_line (f.back.a ++ (at f.back.n Equals ∷ c)) ≡ m = destination_line d f.back.a f.back.front.spelled (at f.back.n Equals ∷ c)
    ∙ f.back.front.line in
    within_more o b f.a f.front (Do m (destination_assignment d x) End) ((f.back.a ++ (at f.back.n Equals ∷ c)) ++ at n Semicolon ∷ [])
    (subst (λ (k : ℕ). IsStatement (Do k (destination_assignment d x) End) ((f.back.a ++ (at f.back.n Equals ∷ c)) ++ at n Semicolon ∷ [])) line
    (assigns n (assign One f.back.n f.back.front.spelled s)))
    (ws ++ at n Semicolon ∷ []) (rw (e, f.is, f.back.is) (simp append_assoc))
after_keeps n _ h w v c ws f s e = tt

pub leads_on : (h : Hole) (i j : Inside) (n : ℕ) (t : TokenKind) (c : List Word) → LeadsInside h i c → inner.expression_step i t ≡ Some j
    → LeadsInside h j (c ++ at n t ∷ [])
leads_on h i j n t c q e = walk_append_inside c (at n t ∷ []) (expression_start (kind_of_hole h)) ∙ rw (q, e) refl

inside_keeps : (n : ℕ) (t : TokenKind) (h : Hole) (i : Inside) (ws : List Word) (k : Cut (BeforeHole h) (LeadsInside h i) ws) (o : Option Inside)
    (w : Option Whole) → inner.expression_step i t ≡ o → whole_at i ≡ w → IfSome (step_inside o w h t) (λ r. Reached r (ws ++ at n t ∷ []))
inside_keeps n t h i ws k (Some j) w e g = record {
  a = k.a;
  b = k.b ++ at n t ∷ [];
  front = k.front;
  back = leads_on h i j n t k.b k.back e;
  is = snoc ws k.a k.b (at n t) k.is;
}
inside_keeps n t h i ws k None (Some w) e g = after_keeps n t h w k.a k.b ws k.front (sound_expression (kind_of_hole h) k.b i w k.back g) k.is
inside_keeps n t h i ws k None None e g = tt

pub leads_declaring_on : (n : ℕ) (t : TokenKind) (s : Declaring) (l : Lead) (ws : List Word) (h : LeadsDeclaring s ws) → declaring.declaration_step s t ≡ Some l
    → walk_declaring (h.others ++ at n t ∷ []) (declaring.inside (declaring.at_sort h.line h.role)) ≡ Some l
leads_declaring_on n t s l ws h e = walk_append_declaring h.others (at n t ∷ []) (declaring.inside (declaring.at_sort h.line h.role)) ∙ rw (h.leads, e) refl

declaring_keeps : (n : ℕ) (t : TokenKind) (ds : List Declaration) (s : Declaring) (ws : List Word) (k : Cut (IsHead ds) (LeadsDeclaring s) ws) (o : Option Lead)
    → declaring.declaration_step s t ≡ o → IfSome (step_declaring o ds) (λ r. Reached r (ws ++ at n t ∷ []))
declaring_keeps n t ds s ws k (Some (declaring.inside u)) e = record {
  a = k.a;
  b = k.b ++ at n t ∷ [];
  front = k.front;
  back = record {
    line = k.back.line;
    role = k.back.role;
    others = k.back.others ++ at n t ∷ [];
    leads = leads_declaring_on n t s (declaring.inside u) k.b k.back e;
    is = ap (λ (l : List Word). l ++ at n t ∷ []) k.back.is;
  };
  is = snoc ws k.a k.b (at n t) k.is;
}
declaring_keeps n t ds s ws k (Some (declaring.whole d)) e = record {
  n = k.front.n;
  m = k.front.m;
  a = k.front.a ++ (at k.back.line (Declare k.back.role) ∷ (k.back.others ++ at n t ∷ []));
  declarations = more_declarations One k.front.declarations
      (sound_declaration One (of_role k.back.line k.back.role) (k.back.others ++ at n t ∷ []) d tt (leads_declaring_on n t s (declaring.whole d) k.b k.back e));
  is = snoc ws k.a k.b (at n t) k.is ∙ ap (λ (l : List Word). l ++ (k.b ++ at n t ∷ [])) k.front.is
      ∙ ap (λ (l : List Word). at k.front.n Prog ∷ at k.front.m Semicolon ∷ (k.front.a ++ (l ++ at n t ∷ []))) k.back.is;
}
declaring_keeps n t ds s ws k None e = tt

pub keeps : (s : ProgramParseState) (n : ℕ) (t : TokenKind) (ws : List Word) → Reached s ws → IfSome (program_step s n t) (λ r. Reached r (ws ++ at n t ∷ []))
keeps at_prog n Prog ws h = (n, ap (λ (l : List Word). l ++ at n Prog ∷ []) h)
keeps after_prog n Semicolon ws h = record {
  n = h.0;
  m = n;
  a = [];
  declarations = no_declarations One;
  is = ap (λ (l : List Word). l ++ at n Semicolon ∷ []) h.1;
}
keeps (at_declaration ds) n (Declare r) ws h = record {
  a = ws;
  b = at n (Declare r) ∷ [];
  front = h;
  back = record { line = n; role = r; others = []; leads = refl; is = refl };
  is = refl;
}
keeps (at_declaration ds) n OpenBrace ws h = record { n = n; a = ws; before = before.outermost ds ws h; is = refl }
keeps (in_declaration ds s) n t ws h = declaring_keeps n t ds s ws h (declaring.declaration_step s t) refl
keeps (at_block o) n t ws h = statement_keeps n t o End ws (opened_within o ws h)
keeps (at_statement o b) n t ws h = statement_keeps n t o b ws h
keeps (after_name o b m x) n Equals ws h = record {
  a = ws ++ at n Equals ∷ [];
  b = [];
  front = record {
    a = h.a;
    b = h.b ++ at n Equals ∷ [];
    front = h.front;
    back = record {
      a = h.b;
      n = n;
      front = subst (λ (l : List Word). IsDestinationAt m (scalar x) l) (sym h.back) (record { spelled = scalar_name m x; line = refl });
      is = refl;
    };
    is = snoc ws h.a h.b (at n Equals) h.is;
  };
  back = refl;
  is = sym (append-nil (ws ++ at n Equals ∷ []));
}
keeps (after_name o b m x) n OpenBracket ws h = record {
  a = ws ++ at n OpenBracket ∷ [];
  b = [];
  front = record {
    a = h.a;
    b = h.b ++ at n OpenBracket ∷ [];
    front = h.front;
    back = record { a = h.b; n = n; front = h.back; is = refl };
    is = snoc ws h.a h.b (at n OpenBracket) h.is;
  };
  back = refl;
  is = sym (append-nil (ws ++ at n OpenBracket ∷ []));
}
keeps (at_equals o b m d) n Equals ws h = record {
  a = ws ++ at n Equals ∷ [];
  b = [];
  front = record {
    a = h.a;
    b = h.b ++ at n Equals ∷ [];
    front = h.front;
    back = record { a = h.b; n = n; front = h.back; is = refl };
    is = snoc ws h.a h.b (at n Equals) h.is;
  };
  back = refl;
  is = sym (append-nil (ws ++ at n Equals ∷ []));
}
keeps (inside h i) n t ws k = inside_keeps n t h i ws k (inner.expression_step i t) (whole_at i) refl refl
keeps (after h w) n t ws k = absurd k
keeps (after_yes o b m g y) n Else ws h = record {
  a = h.a;
  b = h.b ++ at n Else ∷ [];
  front = h.front;
  back = record { a = h.b; n = n; front = h.back; is = refl };
  is = snoc ws h.a h.b (at n Else) h.is;
}
keeps (after_yes o b m g y) n t ws h = statement_keeps n t o (join_blocks b (If m g y End End)) ws (choice_within o b m g y ws h)
keeps (at_no o b m g y) n OpenBrace ws h =
    let c = h.back.front in
    record {
      n = n;
      a = h.a ++ (at m IfWord ∷ (c.a ++ (c.b ++ at h.back.n Else ∷ [])));
      before = before.in_no m h.back.n o b g y h.a c.a c.b h.front c.guard c.block;
      is = rw (h.is, h.back.is, h.back.front.is) (simp append_assoc);
    }
keeps at_prog n _ ws h = tt
keeps after_prog n _ ws h = tt
keeps (at_declaration ds) n _ ws h = tt
keeps (after_name o b m x) n _ ws h = tt
keeps (at_equals o b m d) n _ ws h = tt
keeps (at_no o b m g y) n _ ws h = tt
keeps (at_end p) n _ ws h = tt

-- ---- many words

stepped : (o : Option ProgramParseState) (w : Word) (ws done : List Word) (r : ProgramParseState)
    → ((m : ProgramParseState) (d : List Word) → Reached m d → walk ws m ≡ Some r → Reached r (d ++ ws)) → IfSome o (λ m. Reached m (done ++ w ∷ []))
    → and_then o (walk ws) ≡ Some r → Reached r (done ++ (w ∷ ws))
stepped None w ws done r go h e = absurd cc
stepped (Some m) w ws done r go h e = subst (λ (l : List Word). Reached r l) (append_assoc done (w ∷ []) ws) (go m (done ++ w ∷ []) h e)

reached_on : (ws : List Word) (r s : ProgramParseState) (done : List Word) → Reached s done → walk ws s ≡ Some r → Reached r (done ++ ws)
reached_on [] r s done h e =
    let same : s ≡ r = cc in
    subst (λ (m : ProgramParseState). Reached m (done ++ [])) same (subst (λ (l : List Word). Reached s l) (sym (append-nil done)) h)
reached_on (at n t ∷ ws) r s done h e = stepped (program_step s n t) (at n t) ws done r (λ m d. reached_on ws r m d) (keeps s n t done h) e

-- What has been read at a parse state to which words lead.
pub reached : (ws : List Word) (r : ProgramParseState) → walk ws at_prog ≡ Some r → Reached r ws
reached ws r e = reached_on ws r at_prog [] refl e

-- Words that lead to the end of a program spell it.
pub sound : (p : Program) (ws : List Word) → walk ws at_prog ≡ Some (at_end p) → IsProgram p ws
sound p ws e = reached ws (at_end p) e
