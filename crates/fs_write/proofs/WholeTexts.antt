-- The canonical text of parts reads as the parts, with the lines that they have in it.
use Rattle.std.proofs.Common.{◌≡◌, ℕ, suc, ◌+◌, ◌==◌, true, not, ◌&&◌, ◌||◌, List, [], ◌∷◌, ◌++◌, length, Some, None, Result, Ok, pos, codes, refl, sym, ap}
use Rattle.std.proofs.Common.{subst, append-nil, append_assoc, add-zero, arith}
use Rattle.std.specs.List.{flat_map, list_all, list_any}
use Rattle.std.proofs.lemmas.Bool.{and_parts}
use Rattle.fs_model.specs.Words.{is_name}
use Rattle.fs_model.specs.declared.parts.Role.{Role}
use Rattle.fs_model.specs.declared.parts.Role.TheVariants.{Input, Output, Local}
use Rattle.fs_model.specs.declared.parts.Sort.{Sort}
use Rattle.fs_model.specs.declared.parts.Sort.TheVariants as sorts
use Rattle.fs_model.specs.Source.{Declaration, SourceState, Source}
use Rattle.fs_model.specs.WellFormed.{is_well_formed_transition, is_well_formed_state, is_well_formed_declaration, is_well_formed}
use Rattle.fs_model.specs.Runs.{is_port, is_output}
use Rattle.fs_model.proofs.Roles.{is_output-true}
use Rattle.fs_grammar.specs.declared.fault.TextFault.{TextFault}
use Rattle.fs_grammar.specs.declared.format.Format.{Format}
use Rattle.fs_grammar.specs.declared.format.Format.TheVariants.{One, Two}
use Rattle.fs_grammar.specs.declared.token.TokenKind.TheVariants as tokens
use Rattle.fs_grammar.specs.Grammar.{with_names, with_states, OpenState, with_transitions, with_open_state, ParseState, at_start, at_format, at_semicolon}
use Rattle.fs_grammar.specs.Grammar.{at_declaration, at_sort, at_declared, after_declared, at_reset, after_reset, at_state, at_state_name, after_state_name}
use Rattle.fs_grammar.specs.Grammar.{at_transition, step, finish_source, reading}
use Rattle.fs_lex.specs.Scan.{tokens_of}
use Rattle.fs_write.specs.NeededFormats.{declares_ports, emits_in_state, has_ports, format_for}
use Rattle.fs_write.specs.Canonical.{after_comma, comma_list, line_text, state_text, role_text, declaration_words, declaration_text, head_text, canonical}
use Rattle.fs_write.specs.Spellable.{is_spellable_transition, is_spellable_state, is_spellable_declaration, is_spellable}
use Rattle.fs_write.specs.NeededFormats.{declares_ports, emits_in_state, has_ports, format_for}
use Rattle.fs_write.specs.CanonicalLines.{declarations_from, lines_from, states_from, with_canonical_lines}
use Rattle.fs_write.proofs.Allowed.{Allows, allows_left, allows_right, allowed}
use Rattle.fs_write.proofs.Steps.{Reads, joined, weaker, plain_room, border_room, space_reads, newline_reads}
use Rattle.fs_write.proofs.Words.{one_token, name_reads, one_lexeme, two_lexeme}
use Rattle.fs_write.proofs.Punctuation.{mark_reads}
use Rattle.fs_write.proofs.LineTexts.{more, more_stops, lines_read}

-- ---- states

with_states_two : (s : Source) (xs ys : List SourceState) → with_states (with_states s xs) ys ≡ with_states s (xs ++ ys)
with_states_two s xs ys = ap (λ (l : List SourceState). record s { states = l }) (append_assoc s.states xs ys)

-- the text ends where it may
end_reads : {line_number : ℕ} (s : ParseState) (p : Source) → step s line_number tokens.End ≡ None → finish_source s ≡ Some p → Reads line_number 0 [] s (Ok p)
end_reads s p e f = record { so = λ column n g. rw (e, f) refl }

-- the states, each on lines of its own, up to the end of the text
states_read : (line_number : ℕ) (f : Format) (ss : List SourceState) (s : ParseState) (p : Source) → Allows f (list_any emits_in_state ss)
    → ((n : ℕ) → step s n tokens.State ≡ Some (at_state_name f p n)) → ((n : ℕ) → step s n tokens.End ≡ None) → finish_source s ≡ Some p
    → list_all is_well_formed_state ss ≡ true → list_all is_spellable_state ss ≡ true
    → Reads line_number 0 (flat_map state_text ss) s (Ok (with_states p (states_from line_number ss)))
states_read line_number f [] s p k a g e h w =
    let same : p ≡ with_states p [] = ap (λ (l : List SourceState). record p { states = l }) (sym (append-nil p.states)) in
    subst (λ (q : Source). Reads line_number 0 [] s (Ok q)) same (end_reads s p (g line_number) e)
states_read line_number f (t ∷ ss) s p k a g e h w =
    let n = and_parts (list_all is_well_formed_transition t.transitions) (list_all is_well_formed_state ss) h in
    let v = and_parts (is_spellable_state t) (list_all is_spellable_state ss) w in
    let u = and_parts (is_name t.name) (list_all is_spellable_transition t.transitions) v.0 in
    let rest = flat_map state_text ss in
    let d : OpenState = record { format = f; source = p; state = record { line = line_number; name = t.name; transitions = [] } } in
    let c : OpenState = with_transitions d (lines_from (line_number + 1) t.transitions) in
    let one : List SourceState = c.state ∷ [] in
    let after : Reads (line_number + 1 + length t.transitions) 0 rest (at_transition c)
    (Ok (with_states (with_open_state c) (states_from (line_number + 1 + length t.transitions) ss))) =
    states_read (line_number + 1 + length t.transitions) f ss (at_transition c) (with_open_state c)
    (allows_right f (emits_in_state t) (list_any emits_in_state ss) k)
    (λ m. refl) (λ m. refl) refl n.1 v.1
    in
    let whole : Reads (line_number + 1 + length t.transitions) 0 rest (at_transition c) (Ok (with_states p (states_from line_number (t ∷ ss)))) =
    subst (λ (q : Source). Reads (line_number + 1 + length t.transitions) 0 rest (at_transition c) (Ok q))
    (with_states_two p one (states_from (line_number + 1 + length t.transitions) ss)) after
    in
    let lines : Reads (line_number + 1) 0 (flat_map line_text t.transitions ++ rest) (at_transition d) (Ok (with_states p (states_from line_number (t ∷ ss)))) =
    lines_read (line_number + 1) t.transitions d rest (allows_left f (emits_in_state t) (list_any emits_in_state ss) k) n.0 u.1 whole in
    let body = flat_map line_text t.transitions ++ rest in
    let colon : Reads line_number 0 (58 ∷ 10 ∷ body) (after_state_name d) (Ok (with_states p (states_from line_number (t ∷ ss)))) =
    one_token 58 [] (10 ∷ body) tokens.Colon (after_state_name d) (at_transition d) refl refl refl (border_room tokens.Colon 0 refl refl) refl
    (newline_reads body (weaker body 0 128 (omega arith) lines))
    in
    let name : Reads line_number 0 (t.name ++ (58 ∷ 10 ∷ body)) (at_state_name f p line_number) (Ok (with_states p (states_from line_number (t ∷ ss)))) =
    name_reads t.name (58 ∷ 10 ∷ body) (at_state_name f p line_number) (after_state_name d) u.0 refl refl colon in
    let same : state_text t ++ rest ≡ codes "state " ++ (t.name ++ (58 ∷ 10 ∷ body)) = simp append_assoc in
    subst (λ (bytes : List ℕ). Reads line_number 0 bytes s (Ok (with_states p (states_from line_number (t ∷ ss))))) (sym same)
    (one_token 115 (codes "tate") (32 ∷ (t.name ++ (58 ∷ 10 ∷ body))) tokens.State s (at_state_name f p line_number) refl refl refl
    (plain_room tokens.State 0 refl refl) (a line_number) (space_reads (t.name ++ (58 ∷ 10 ∷ body)) name))

-- ---- declarations

with_names_two : (d : Declaration) (xs ys : List (List ℕ)) → with_names (with_names d xs) ys ≡ with_names d (xs ++ ys)
with_names_two d xs ys = ap (λ (l : List (List ℕ)). record d { names = l }) (append_assoc d.names xs ys)

more_names : {line_number : ℕ} {r : Result Source TextFault} (f : Format) (ds : List Declaration) (d : Declaration) (xs : List (List ℕ)) (rest : List ℕ)
    → list_all is_name xs ≡ true → Reads (line_number + 1) 0 rest (at_declaration f (ds ++ with_names d xs ∷ [])) r
    → Reads line_number 0 (more xs rest) (after_declared f ds d) r
more_names {line_number} {r} f ds d [] rest h c =
    let same : with_names d [] ≡ d = ap (λ (l : List (List ℕ)). record d { names = l }) (append-nil d.names) in
    mark_reads 59 (10 ∷ rest) tokens.Semicolon (after_declared f ds d) (at_declaration f (ds ++ d ∷ [])) refl refl refl refl refl refl
    (newline_reads rest (subst (λ (q : Declaration). Reads (line_number + 1) 0 rest (at_declaration f (ds ++ q ∷ [])) r) same c))
more_names {line_number} {r} f ds d (x ∷ xs) rest h c =
    let n = and_parts (is_name x) (list_all is_name xs) h in
    let e : Declaration = with_names d (x ∷ []) in
    let last : Reads (line_number + 1) 0 rest (at_declaration f (ds ++ with_names e xs ∷ [])) r =
    subst (λ (q : Declaration). Reads (line_number + 1) 0 rest (at_declaration f (ds ++ q ∷ [])) r) (sym (with_names_two d (x ∷ []) xs)) c in
    let tail : Reads line_number 0 (more xs rest) (after_declared f ds e) r = more_names f ds e xs rest n.1 last in
    let name : Reads line_number 0 (x ++ more xs rest) (at_declared f ds d) r =
    name_reads x (more xs rest) (at_declared f ds d) (after_declared f ds e) n.0 (more_stops xs rest) refl tail in
    joined (after_comma x) (flat_map after_comma xs) (59 ∷ 10 ∷ rest)
    (one_token 44 [] (32 ∷ (x ++ more xs rest)) tokens.Comma (after_declared f ds d)
    (at_declared f ds d) refl refl refl (border_room tokens.Comma 0 refl refl) refl
    (space_reads (x ++ more xs rest) (weaker (x ++ more xs rest) 0 128 (omega arith) name)))

-- a list of names, from where the first one can follow
names_read : {line_number : ℕ} {r : Result Source TextFault} (f : Format) (ds : List Declaration) (d : Declaration) (s : ParseState) (xs : List (List ℕ))
    (rest : List ℕ) → d.names ≡ [] → ((x : List ℕ) → step s line_number (tokens.Name x) ≡ Some (after_declared f ds (with_names d (x ∷ []))))
    → not (length xs == 0) ≡ true → list_all is_name xs ≡ true → Reads (line_number + 1) 0 rest (at_declaration f (ds ++ record d { names = xs } ∷ [])) r
    → Reads line_number 0 (comma_list xs ++ (59 ∷ 10 ∷ rest)) s r
names_read f ds d s [] rest none k e h c = absurd cc
names_read {line_number} {r} f ds d s (x ∷ xs) rest none k e h c =
    let n = and_parts (is_name x) (list_all is_name xs) h in
    let p : Declaration = with_names d (x ∷ []) in
    let same : record d { names = x ∷ xs } ≡ with_names p xs = ap (λ (l : List (List ℕ)). record d { names = (l ++ (x ∷ [])) ++ xs }) (sym none) in
    let last : Reads (line_number + 1) 0 rest (at_declaration f (ds ++ with_names p xs ∷ [])) r =
    subst (λ (q : Declaration). Reads (line_number + 1) 0 rest (at_declaration f (ds ++ q ∷ [])) r) same c in
    let tail : Reads line_number 0 (more xs rest) (after_declared f ds p) r = more_names f ds p xs rest n.1 last in
    joined x (flat_map after_comma xs) (59 ∷ 10 ∷ rest) (name_reads x (more xs rest) s (after_declared f ds p) n.0 (more_stops xs rest) (k x) tail)

role_reads : {line_number : ℕ} {r : Result Source TextFault} (f : Format) (role : Role) (ds : List Declaration) (rest : List ℕ)
    → Reads line_number 0 rest (at_sort f ds line_number role) r → Reads line_number 0 (role_text role ++ rest) (at_declaration f ds) r
role_reads {line_number} f Input ds rest c = one_token 105 (codes "nput") (32 ∷ rest) (tokens.Declare Input) (at_declaration f ds)
    (at_sort f ds line_number Input) refl refl refl (plain_room (tokens.Declare Input) 0 refl refl) refl (space_reads rest c)
role_reads {line_number} f Output ds rest c = one_token 111 (codes "utput") (32 ∷ rest) (tokens.Declare Output) (at_declaration f ds)
    (at_sort f ds line_number Output) refl refl refl (plain_room (tokens.Declare Output) 0 refl refl) refl (space_reads rest c)
role_reads {line_number} f Local ds rest c = one_token 108 (codes "ocal") (32 ∷ rest) (tokens.Declare Local) (at_declaration f ds)
    (at_sort f ds line_number Local) refl refl refl (plain_room (tokens.Declare Local) 0 refl refl) refl (space_reads rest c)

-- a declaration without its names
abbrev unnamed : ℕ → Role → Sort → Declaration
unnamed n role sort = record { line = n; role = role; sort = sort; names = [] }

-- a declaration of some sort and role, up to the end of its line
declaration_reads : {line_number : ℕ} {r : Result Source TextFault} (f : Format) (ds : List Declaration) (role : Role) (sort : Sort) (xs : List (List ℕ))
    (rest : List ℕ) → Allows f (is_port sort) → (not (is_port sort) || is_output role) ≡ true → not (length xs == 0) ≡ true → list_all is_name xs ≡ true
    → Reads (line_number + 1) 0 rest (at_declaration f (ds ++ record { line = line_number; role = role; sort = sort; names = xs } ∷ [])) r
    → Reads line_number 0 (declaration_words role sort ++ (comma_list xs ++ (59 ∷ 10 ∷ rest))) (at_declaration f ds) r
declaration_reads {line_number} {r} f ds role sorts.Scalar xs rest k o e h c =
    let body = comma_list xs ++ (59 ∷ 10 ∷ rest) in
    let names : Reads line_number 0 body (at_sort f ds line_number role) r =
    names_read f ds (unnamed line_number role sorts.Scalar) (at_sort f ds line_number role) xs rest refl (λ x. refl) e h c in
    role_reads f role ds body names
declaration_reads {line_number} {r} f ds role sorts.Array xs rest k o e h c =
    let body = comma_list xs ++ (59 ∷ 10 ∷ rest) in
    let d = unnamed line_number role sorts.Array in
    let names : Reads line_number 0 body (at_declared f ds d) r = names_read f ds d (at_declared f ds d) xs rest refl (λ x. refl) e h c in
    let array : Reads line_number 0 (codes "array " ++ body) (at_sort f ds line_number role) r =
    one_token 97 (codes "rray") (32 ∷ body) tokens.Array (at_sort f ds line_number role)
    (at_declared f ds d) refl refl refl (plain_room tokens.Array 0 refl refl) refl (space_reads body names) in
    joined (role_text role) (codes "array ") body (role_reads f role ds (codes "array " ++ body) array)
declaration_reads {line_number} {r} f ds role sorts.Port xs rest k o e h c =
    let body = comma_list xs ++ (59 ∷ 10 ∷ rest) in
    let d = unnamed line_number Output sorts.Port in
    let there : Reads (line_number + 1) 0 rest (at_declaration f (ds ++ record { line = line_number; role = Output; sort = sorts.Port; names = xs } ∷ [])) r =
    subst
    (λ (q : Role). Reads (line_number + 1) 0 rest (at_declaration f (ds ++ record { line = line_number; role = q; sort = sorts.Port; names = xs } ∷ [])) r)
    (is_output-true role o) c in
    let names : Reads line_number 0 body (at_declared f ds d) r = names_read f ds d (at_declared f ds d) xs rest refl (λ x. refl) e h there in
    one_token 112 (codes "ort") (32 ∷ body) tokens.Port (at_declaration f ds) (at_declared f ds d) refl refl refl (plain_room tokens.Port 0 refl refl)
    (rw (k refl) refl) (space_reads body names)

-- the declarations, each on its line
declarations_read : {r : Result Source TextFault} (line_number : ℕ) (f : Format) (xs ds : List Declaration) (rest : List ℕ)
    → Allows f (list_any declares_ports xs) → list_all is_well_formed_declaration xs ≡ true → list_all is_spellable_declaration xs ≡ true
    → Reads (line_number + length xs) 0 rest (at_declaration f (ds ++ declarations_from line_number xs)) r
    → Reads line_number 0 (flat_map declaration_text xs ++ rest) (at_declaration f ds) r
declarations_read line_number f [] ds rest k h w c = rw (append-nil ds, add-zero) at c
declarations_read {r} line_number f (d ∷ xs) ds rest k h w c =
    let n = and_parts (is_well_formed_declaration d) (list_all is_well_formed_declaration xs) h in
    let m = and_parts (not (length d.names == 0)) (not (is_port d.sort) || is_output d.role) n.0 in
    let v = and_parts (is_spellable_declaration d) (list_all is_spellable_declaration xs) w in
    let one : List Declaration = record { line = line_number; role = d.role; sort = d.sort; names = d.names } ∷ [] in
    let there : line_number + suc (length xs) ≡ line_number + 1 + length xs = omega arith in
    let moved : Reads (line_number + 1 + length xs) 0 rest (at_declaration f (ds ++ declarations_from line_number (d ∷ xs))) r =
    subst (λ (k : ℕ). Reads k 0 rest (at_declaration f (ds ++ declarations_from line_number (d ∷ xs))) r) there c in
    let last : Reads (line_number + 1 + length xs) 0 rest (at_declaration f ((ds ++ one) ++ declarations_from (line_number + 1) xs)) r =
    subst (λ (l : List Declaration). Reads (line_number + 1 + length xs) 0 rest (at_declaration f l) r)
    (sym (append_assoc ds one (declarations_from (line_number + 1) xs))) moved
    in
    let body = flat_map declaration_text xs ++ rest in
    let after : Reads (line_number + 1) 0 body (at_declaration f (ds ++ one)) r =
    declarations_read (line_number + 1) f xs (ds ++ one) rest (allows_right f (declares_ports d) (list_any declares_ports xs) k) n.1 v.1 last in
    let read : Reads line_number 0 (declaration_words d.role d.sort ++ (comma_list d.names ++ (59 ∷ 10 ∷ body))) (at_declaration f ds) r =
    declaration_reads f ds d.role d.sort d.names body (allows_left f (declares_ports d) (list_any declares_ports xs) k) m.1 m.0 v.0 after in
    let same : (declaration_text d ++ flat_map declaration_text xs) ++ rest ≡ declaration_words d.role d.sort ++ (comma_list d.names ++ (59 ∷ 10 ∷ body)) =
    simp append_assoc in
    subst (λ (bytes : List ℕ). Reads line_number 0 bytes (at_declaration f ds) r) (sym same) read

-- ---- the whole text

-- the head, which says the format
head_reads : {r : Result Source TextFault} (f : Format) (rest : List ℕ) → Reads 2 0 rest (at_declaration f []) r → Reads 1 0 (head_text f ++ rest) at_start r
head_reads {r} One rest c =
    let semicolon : Reads 1 0 (59 ∷ 10 ∷ rest) (at_semicolon One) r =
    mark_reads 59 (10 ∷ rest) tokens.Semicolon (at_semicolon One) (at_declaration One []) refl refl refl refl refl refl (newline_reads rest c) in
    let one : Reads 1 0 (49 ∷ 59 ∷ 10 ∷ rest) at_format r = one_token 49 [] (59 ∷ 10 ∷ rest) (tokens.Number (pos 1)) at_format (at_semicolon One)
    (one_lexeme (10 ∷ rest)) refl refl (plain_room (tokens.Number (pos 1)) 0 refl refl) refl semicolon in
    one_token 102 (codes "smd") (32 ∷ 49 ∷ 59 ∷ 10 ∷ rest) tokens.Fsmd at_start at_format refl refl refl (plain_room tokens.Fsmd 0 refl refl) refl
    (space_reads (49 ∷ 59 ∷ 10 ∷ rest) one)
head_reads {r} Two rest c =
    let semicolon : Reads 1 0 (59 ∷ 10 ∷ rest) (at_semicolon Two) r =
    mark_reads 59 (10 ∷ rest) tokens.Semicolon (at_semicolon Two) (at_declaration Two []) refl refl refl refl refl refl (newline_reads rest c) in
    let two : Reads 1 0 (50 ∷ 59 ∷ 10 ∷ rest) at_format r = one_token 50 [] (59 ∷ 10 ∷ rest) (tokens.Number (pos 2)) at_format (at_semicolon Two)
    (two_lexeme (10 ∷ rest)) refl refl (plain_room (tokens.Number (pos 2)) 0 refl refl) refl semicolon in
    one_token 102 (codes "smd") (32 ∷ 50 ∷ 59 ∷ 10 ∷ rest) tokens.Fsmd at_start at_format refl refl refl (plain_room tokens.Fsmd 0 refl refl) refl
    (space_reads (50 ∷ 59 ∷ 10 ∷ rest) two)

-- what is written is read back
pub reads_back : (s : Source) → is_well_formed s ≡ true → is_spellable s ≡ true → reading (tokens_of (canonical s)) at_start ≡ Ok (with_canonical_lines s)
reads_back s h w =
    let n = and_parts (list_all is_well_formed_declaration s.declarations) (list_all is_well_formed_state s.states) h in
    let v = and_parts (list_all is_spellable_declaration s.declarations) (is_name s.reset && list_all is_spellable_state s.states) w in
    let u = and_parts (is_name s.reset) (list_all is_spellable_state s.states) v.1 in
    let f = format_for s in
    let k : Allows f (has_ports s) = allowed (has_ports s) in
    let line_number = 2 + length s.declarations in
    let ds = declarations_from 2 s.declarations in
    let p : Source = record { declarations = ds; reset_line = line_number; reset = s.reset; states = [] } in
    let states = flat_map state_text s.states in
    let r : Result Source TextFault = Ok (with_canonical_lines s) in
    let last : Reads (line_number + 1) 0 states (at_state f p) r =
    states_read (line_number + 1) f s.states (at_state f p) p (allows_right f (list_any declares_ports s.declarations) (list_any emits_in_state s.states) k)
    (λ m. refl) (λ m. refl) refl n.1 u.1 in
    let ended : Reads line_number 0 (59 ∷ 10 ∷ states) (after_reset f p) r =
    mark_reads 59 (10 ∷ states) tokens.Semicolon (after_reset f p) (at_state f p) refl refl refl refl refl refl (newline_reads states last) in
    let body = s.reset ++ (59 ∷ 10 ∷ states) in
    let name : Reads line_number 0 body (at_reset f ds line_number) r =
    name_reads s.reset (59 ∷ 10 ∷ states) (at_reset f ds line_number) (after_reset f p) u.0 refl refl ended in
    let reset : Reads line_number 0 (codes "reset " ++ body) (at_declaration f ds) r =
    one_token 114 (codes "eset") (32 ∷ body) tokens.Reset (at_declaration f ds)
    (at_reset f ds line_number) refl refl refl (plain_room tokens.Reset 0 refl refl) refl (space_reads body name) in
    let tail = flat_map declaration_text s.declarations ++ (codes "reset " ++ body) in
    let declared : Reads 2 0 tail (at_declaration f []) r = declarations_read 2 f s.declarations [] (codes "reset " ++ body)
    (allows_left f (list_any declares_ports s.declarations) (list_any emits_in_state s.states) k) n.0 v.0 reset in
    (head_reads f tail declared).so 1 0 (omega arith)
