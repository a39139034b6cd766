-- Which refusals come of the nodes of a file.
use Rattle.std.proofs.Common.{◌≡◌, ℕ, ◌+◌, Bool, true, false, cond, refl, sym, ap, ◌∙◌, List, [], ◌∷◌, ◌++◌, Option, Some, None, Result, Ok, Err}
use Rattle.std.specs.Prelude.{not, ◌&&◌, map, set}
use Rattle.std.specs.List.{list_any}
use Rattle.serde_json.specs.Data.{Data}
use Rattle.fs_model.specs.Machines.{Fsmd}
use Rattle.fs_cut.specs.Paths.{Point, is_point}
use Rattle.fs_pair.specs.Positions.{positions}
use Rattle.cert_bisimulation.specs.Tables.{Node}
use Rattle.nf_terms.specs.declared.form.Nf.{Nf}
use Rattle.nf_rel.specs.Literals.{NormalLiteral}
use Rattle.sym_facts.specs.Facts.{Fact}
use Rattle.sym_facts.specs.FactParts.{fact_of, first_unsolved}
use Rattle.term_values.specs.declared.faults.TermError.{TermError}
use Rattle.term_values.specs.declared.faults.TermError.TheVariants as term
use Rattle.cert_json.specs.Refusals.{IsFileOf}
use Rattle.cert_json.specs.WrittenJson.{NodeText}
use Rattle.cert_facts.specs.declared.faults.CertError.{CertError}
use Rattle.cert_facts.specs.declared.faults.CertError.TheVariants as errors
use Rattle.cert_facts.specs.declared.faults.Stop.{Stop}
use Rattle.cert_facts.specs.declared.faults.Stop.TheVariants as stop
use Rattle.cert_facts.specs.JsonParts.{file_nodes, file_format}
use Rattle.cert_terms.specs.CertificateNames.{place_named, find_in, name_place, place_by_key, sort_at}
use Rattle.cert_text.specs.FileErrors.{error_of}
use Rattle.cert_facts.specs.PartAnswers.{then_part}
use Rattle.cert_text.specs.NodePointNames.{point_named, known_point, cut_point, node_is_at, may_share_points, points_if_free, StateTables}
use Rattle.cert_text.specs.NodePointNames.{points_read}
use Rattle.cert_terms.specs.TextFunctions.{meanings_by}
use Rattle.cert_facts.specs.FactReading.{TermContext, text_read, known_place, equation_read, equation_put, equations_read}
use Rattle.cert_facts.specs.FactReading.{unwritten_equation, conditions_read, solved_fact, node_fact}
use Rattle.cert_text.specs.CertificateReading.{Context, node_read, node_added, nodes_read}
use Rattle.cert_text.specs.Refusals.{context_of, file_read, ComesTo, TellsNodes, BreaksFirst, IsRefusedAsCertificate}
use Rattle.cert_terms.proofs.Readings.{texts_are_read}

-- whether a refusal may come of nodes: all but those of a whole file
abbrev is_of_nodes : CertError → Bool
is_of_nodes errors.NotJson = false
is_of_nodes errors.Shape = false
is_of_nodes (errors.UnknownState i) = true
is_of_nodes (errors.NotCutpoint i) = true
is_of_nodes (errors.UnknownName i) = true
is_of_nodes (errors.SortOf i) = true
is_of_nodes (errors.NotSolved i k) = true
is_of_nodes (errors.TwiceNode i) = true
is_of_nodes (errors.NumberTooBig i) = true
is_of_nodes errors.TooMany = false
is_of_nodes errors.NoMemory = true
is_of_nodes (errors.BadTerm i) = true
is_of_nodes (errors.NotNormal i) = true

abbrev passes : {X : Type 0} → Result X CertError → Bool
passes (Ok x) = true
passes (Err e) = is_of_nodes e

passes_after : {X Y : Type 0} (y : Result X CertError) (next : X → Result Y CertError) → passes y ≡ true → ((x : X) → passes (next x) ≡ true)
    → passes (then_part y next) ≡ true
passes_after (Ok x) next h g = g x
passes_after (Err e) next h g = h

-- ---- points

known_passes : (i : ℕ) (o : Option Point) → passes (known_point i o) ≡ true
known_passes i None = refl
known_passes i (Some P) = refl

cut_passes : (i : ℕ) (m : Fsmd) (P : Point) → passes (cut_point i m P) ≡ true
cut_passes i m P = by_test (is_point m P)
  where
    by_test : (t : Bool) → passes (cond {A = Result Point CertError} t (Ok P) (Err (errors.NotCutpoint i))) ≡ true
    by_test true = refl
    by_test false = refl

free_passes : (i format : ℕ) (earlier : List (Node Fact)) (P Q : Point) → passes (points_if_free i format earlier P Q) ≡ true
free_passes i format earlier P Q = by_test (not (may_share_points format) && list_any (node_is_at P Q) earlier)
  where
    by_test : (t : Bool) → passes (cond {A = Result (Point × Point) CertError} t (Err (errors.TwiceNode i)) (Ok (P, Q))) ≡ true
    by_test true = refl
    by_test false = refl

points_pass : (i format : ℕ) (s : StateTables) (earlier : List (Node Fact)) (left right : List ℕ) → passes (points_read i format s earlier left right) ≡ true
unfolding points_read
points_pass i format s earlier left right =
    passes_after (known_point i (point_named s.left left)) _ (known_passes i (point_named s.left left)) (λ P.
    passes_after (known_point i (point_named s.right right)) _ (known_passes i (point_named s.right right)) (λ Q.
    passes_after (cut_point i s.a P) _ (cut_passes i s.a P) (λ R.
    passes_after (cut_point i s.b Q) _ (cut_passes i s.b Q) (λ S. free_passes i format earlier R S))))

-- ---- texts

text_passes : {X : Type 0} (i : ℕ) (y : Result X TermError) → passes (text_read i y) ≡ true
text_passes i (Ok x) = refl
text_passes i (Err term.BadTerm) = refl
text_passes i (Err term.NumberTooBig) = refl
text_passes i (Err term.UnknownName) = refl
text_passes i (Err term.SortOf) = refl
text_passes i (Err term.NotNormal) = refl
text_passes i (Err term.NoMemory) = refl

place_passes : (i : ℕ) (o : Option ℕ) → passes (known_place i o) ≡ true
place_passes i None = refl
place_passes i (Some k) = refl

put_passes : (c : TermContext) (i : ℕ) (fs : List (Option Nf)) (e : List ℕ × List ℕ) → passes (equation_put c i fs e) ≡ true
put_passes c i fs e =
    passes_after (equation_read c i e) (λ x. Ok (set fs x.0 (Some x.1)))
    (passes_after (known_place i (place_by_key (name_place c.place c.positions c.format) e.0)) _
    (place_passes i (place_by_key (name_place c.place c.positions c.format) e.0)) (λ k.
    passes_after (text_read i (c.texts.term (sort_at c.positions k) e.1)) _ (text_passes i (c.texts.term (sort_at c.positions k) e.1)) (λ f. refl)))
    (λ x. refl)

equations_pass : (c : TermContext) (i : ℕ) (fs : List (Option Nf)) (es : List (List ℕ × List ℕ)) → passes (equations_read c i fs es) ≡ true
equations_pass c i fs [] = refl
equations_pass c i fs (e ∷ es) = passes_after (equation_put c i fs e) (λ gs. equations_read c i gs es) (put_passes c i fs e) (λ gs. equations_pass c i gs es)

conditions_pass : (c : TermContext) (i : ℕ) (ls : List NormalLiteral) (ts : List (List ℕ)) → passes (conditions_read c i ls ts) ≡ true
conditions_pass c i ls [] = refl
conditions_pass c i ls (t ∷ ts) = passes_after (text_read i (c.texts.condition t)) (λ l. conditions_read c i (ls ++ l ∷ []) ts)
    (text_passes i (c.texts.condition t)) (λ l. conditions_pass c i (ls ++ l ∷ []) ts)

-- ---- nodes

solved_passes : (i : ℕ) (f : Fact) (o : Option ℕ) → passes (solved_fact i f o) ≡ true
solved_passes i f None = refl
solved_passes i f (Some k) = refl

fact_passes : (c : TermContext) (i : ℕ) (n : NodeText) → passes (node_fact c i n) ≡ true
unfolding node_fact
fact_passes c i n =
    passes_after (equations_read c i (map (unwritten_equation c.format) c.positions) n.equations) _
    (equations_pass c i (map (unwritten_equation c.format) c.positions) n.equations) (λ fs.
    passes_after (conditions_read c i [] n.conds) _ (conditions_pass c i [] n.conds)
    (λ ls. solved_passes i (fact_of c.positions fs ls) (first_unsolved (fact_of c.positions fs ls))))

node_passes : (c : Context) (i : ℕ) (earlier : List (Node Fact)) (n : NodeText) → passes (node_read c i earlier n) ≡ true
unfolding node_read
node_passes c i earlier n =
    passes_after (points_read i c.terms.format c.states earlier n.left n.right) _ (points_pass i c.terms.format c.states earlier n.left n.right) (λ P.
    passes_after (node_fact c.terms i n) _ (fact_passes c.terms i n) (λ f. refl))

nodes_pass : (c : Context) (i : ℕ) (earlier : List (Node Fact)) (ns : List NodeText) → passes (nodes_read c i earlier ns) ≡ true
nodes_pass c i earlier [] = refl
nodes_pass c i earlier (n ∷ ns) =
    passes_after (node_added c i earlier n) (λ ms. nodes_read c (i + 1) ms ns)
    (passes_after (node_read c i earlier n) (λ m. Ok (earlier ++ m ∷ [])) (node_passes c i earlier n) (λ m. refl)) (λ ms. nodes_pass c (i + 1) ms ns)

-- ---- what a file comes to

no_truth : false ≡ true → ⊥
no_truth e = cc

comes_of_nodes : (a b : Fsmd) (d : Data) (e : CertError) → ComesTo a b d (Err e) → is_of_nodes e ≡ true
comes_of_nodes a b d e h =
    let r = meanings_by (find_in (place_named a b (positions a b)) (positions a b) (file_format d)) in
    let come : file_read a b d r ≡ Err e = h r (texts_are_read (find_in (place_named a b (positions a b)) (positions a b) (file_format d))) in
    sym (ap passes come) ∙ nodes_pass (context_of a b (file_format d) r) 0 [] (file_nodes d)

breaks : (a b : Fsmd) (bytes : List ℕ) (e : CertError) → is_of_nodes e ≡ true → BreaksFirst a b bytes e → IsRefusedAsCertificate a b bytes e
breaks a b bytes errors.NotJson t h = absurd (no_truth t)
breaks a b bytes errors.Shape t h = absurd (no_truth t)
breaks a b bytes errors.TooMany t h = absurd (no_truth t)
breaks a b bytes errors.NoMemory t h = tt
breaks a b bytes (errors.UnknownState i) t h = h
breaks a b bytes (errors.NotCutpoint i) t h = h
breaks a b bytes (errors.UnknownName i) t h = h
breaks a b bytes (errors.SortOf i) t h = h
breaks a b bytes (errors.NotSolved i k) t h = h
breaks a b bytes (errors.TwiceNode i) t h = h
breaks a b bytes (errors.NumberTooBig i) t h = h
breaks a b bytes (errors.BadTerm i) t h = h
breaks a b bytes (errors.NotNormal i) t h = h

pub nodes_refused : (a b : Fsmd) (bytes : List ℕ) (d : Data) (s : Stop) → IsFileOf bytes d → TellsNodes a b d (Err s)
    → IsRefusedAsCertificate a b bytes (error_of s)
nodes_refused a b bytes d (stop.Refused e) f h = breaks a b bytes e (comes_of_nodes a b d e h) (record { value = d; file = f; first = h })
nodes_refused a b bytes d stop.NoMemory f h = tt
