-- What tokens spell depends on their kinds and places alone.
use Rattle.std.proofs.Common.{◌≡◌, ℕ, ◌+◌, List, [], ◌∷◌, ◌++◌, refl, sym, ap, ap₂, subst, ◌∙◌, cond}
use Rattle.std.specs.Prelude.{false, map}
use Rattle.std.specs.List.{AllByRecursion}
use Rattle.std.proofs.lemmas.List.Sums.{sum_by-cons}
use Rattle.fs_model.specs.Source.{Source}
use Rattle.fs_grammar.specs.declared.fault.TextFault.{TextFault}
use Rattle.fs_grammar.specs.declared.fault.TextKind.{TextKind}
use Rattle.fs_grammar.specs.declared.fault.TextKind.TheVariants.{BadByte, BadWord, NumberTooBig, Unexpected, Operators, Nested, Ended}
use Rattle.fs_grammar.specs.declared.fault.TextPlace.{TextPlace}
use Rattle.fs_grammar.specs.declared.token.TokenKind.{TokenKind}
use Rattle.fs_grammar.specs.declared.token.Token.{Token}
use Rattle.fs_grammar.specs.Operators.{is_operator, starts_expression}
use Rattle.fs_grammar.specs.Spelling.{Word, at, IsFile}
use Rattle.fs_grammar.specs.Beginnings.{BeginsFile}
use Rattle.fs_grammar.specs.Faults.{word_of, IsPlain, CanFollow}
use Rattle.fs_grammar.specs.WordWalks.{words}
use Rattle.fs_lex.specs.Tokenization.{kind_and_place}
use Rattle.fs_lex.specs.Limit.{operator_count, IsOneTooMany, KeepLimit, SpellWithin, IsWrongWithin, StopWithin}

-- two tokens of one kind at one place
pub record IsAlike (t u : Token) : Type 0 where
  pub kind : t.kind ≡ u.kind
  pub place : t.place ≡ u.place

-- tokens of the same kinds at the same places
abbrev pub AreAlike : List Token → List Token → Type 0
AreAlike [] [] = Unit {0}
AreAlike [] (u ∷ us) = ⊥
AreAlike (t ∷ ts) [] = ⊥
AreAlike (t ∷ ts) (u ∷ us) = IsAlike t u × AreAlike ts us

pub alike : (ts us : List Token) → map kind_and_place ts ≡ map kind_and_place us → AreAlike ts us
alike [] [] e = tt
alike [] (u ∷ us) e = absurd cc
alike (t ∷ ts) [] e = absurd cc
alike (t ∷ ts) (u ∷ us) e =
    let heads : kind_and_place t ≡ kind_and_place u = cc in
    let tails : map kind_and_place ts ≡ map kind_and_place us = cc in
    (record { kind = ap (λ (p : TokenKind × TextPlace). p.0) heads; place = ap (λ (p : TokenKind × TextPlace). p.1) heads }, alike ts us tails)

back : (t u : Token) → IsAlike t u → IsAlike u t
back t u a = record { kind = sym a.kind; place = sym a.place }

all_back : (ts us : List Token) → AreAlike ts us → AreAlike us ts
all_back [] [] h = tt
all_back [] (u ∷ us) h = absurd h
all_back (t ∷ ts) [] h = absurd h
all_back (t ∷ ts) (u ∷ us) h = (back t u h.0, all_back ts us h.1)

one_word : (t u : Token) → IsAlike t u → word_of t ≡ word_of u
one_word t u a = ap₂ (λ (p : TextPlace) (k : TokenKind). at p.line k) a.place a.kind

same_words : (ts us : List Token) → AreAlike ts us → words ts ≡ words us
same_words [] [] h = refl
same_words [] (u ∷ us) h = absurd h
same_words (t ∷ ts) [] h = absurd h
same_words (t ∷ ts) (u ∷ us) h = ap₂ (λ (w : Word) (ws : List Word). w ∷ ws) (one_word t u h.0) (same_words ts us h.1)

-- tokens that are alike are cut alike
record IsCutAlike (a : List Token) (t : Token) (b us : List Token) : Type 0 where
  before : List Token
  token : Token
  behind : List Token
  is : us ≡ before ++ token ∷ behind
  first : AreAlike a before
  one : IsAlike t token
  last : AreAlike b behind

cut_alike : (a : List Token) (t : Token) (b us : List Token) → AreAlike (a ++ t ∷ b) us → IsCutAlike a t b us
cut_alike [] t b [] h = absurd h
cut_alike [] t b (u ∷ us) h = record { before = []; token = u; behind = us; is = refl; first = tt; one = h.0; last = h.1 }
cut_alike (v ∷ a) t b [] h = absurd h
cut_alike (v ∷ a) t b (u ∷ us) h =
    let c = cut_alike a t b us h.1 in
    record {
      before = u ∷ c.before;
      token = c.token;
      behind = c.behind;
      is = ap (λ (l : List Token). u ∷ l) c.is;
      first = (h.0, c.first);
      one = c.one;
      last = c.last;
    }

cut_as : (ts a : List Token) (t : Token) (b us : List Token) → ts ≡ a ++ t ∷ b → AreAlike ts us → IsCutAlike a t b us
cut_as ts a t b us e h = cut_alike a t b us (subst (λ (l : List Token). AreAlike l us) e h)

-- ---- the limit

inside_alike : (ts us : List Token) → AreAlike ts us → AllByRecursion (λ t. starts_expression t.kind ≡ false) ts
    → AllByRecursion (λ t. starts_expression t.kind ≡ false) us
inside_alike [] [] h i = tt
inside_alike [] (u ∷ us) h i = absurd h
inside_alike (t ∷ ts) [] h i = absurd h
inside_alike (t ∷ ts) (u ∷ us) h i = (ap starts_expression (sym h.0.kind) ∙ i.0, inside_alike ts us h.1 i.1)

same_count : (ts us : List Token) → AreAlike ts us → operator_count ts ≡ operator_count us
same_count [] [] h = refl
same_count [] (u ∷ us) h = absurd h
same_count (t ∷ ts) [] h = absurd h
same_count (t ∷ ts) (u ∷ us) h =
    sum_by-cons (λ (t : Token). cond (is_operator t.kind) 1 0) t ts
    ∙ ap₂ (λ (k : TokenKind) (n : ℕ). cond (is_operator k) 1 0 + n) h.0.kind (same_count ts us h.1)
    ∙ sym (sum_by-cons (λ (t : Token). cond (is_operator t.kind) 1 0) u us)

excess_alike : (ts us : List Token) (t u : Token) → AreAlike ts us → IsAlike t u → IsOneTooMany ts t → IsOneTooMany us u
excess_alike ts us t u h a x =
    let e = x.since in
    let c = cut_as ts e.before e.token x.part us e.is h in
    record {
      operator = ap is_operator (sym a.kind) ∙ x.operator;
      part = c.behind;
      since =
          record {
            before = c.before;
            token = c.token;
            is = c.is;
            begins = ap starts_expression (sym c.one.kind) ∙ e.begins;
            inside = inside_alike x.part c.behind c.last e.inside;
          };
      full = sym (same_count x.part c.behind c.last) ∙ x.full;
    }

keep_alike : (ts us : List Token) → AreAlike ts us → KeepLimit ts → KeepLimit us
keep_alike ts us h k a b u e x =
    let c = cut_as us a u b ts e (all_back ts us h) in
    k c.before c.behind c.token c.is (excess_alike a c.before u c.token c.first c.one x)

-- ---- what is spelled

pub spell_alike : (ts us : List Token) (s : Source) → AreAlike ts us → SpellWithin ts s → SpellWithin us s
spell_alike ts us s h p =
    let c = cut_as ts p.before p.token p.behind us p.parts h in
    record {
      before = c.before;
      token = c.token;
      behind = c.behind;
      parts = c.is;
      ends = sym c.one.kind ∙ p.ends;
      format = p.format;
      file = subst (λ (l : List Word). IsFile p.format s l) (same_words p.before c.before c.first) p.file;
      limit = keep_alike p.before c.before c.first p.limit;
    }

-- ---- what is wrong

follows_alike : (ts us : List Token) (t u : Token) → AreAlike ts us → IsAlike t u → CanFollow (words ts) t → CanFollow (words us) u
follows_alike ts us t u h a f =
    subst (λ (l : List Word). BeginsFile (l ++ word_of u ∷ [])) (same_words ts us h) (subst (λ (w : Word). BeginsFile (words ts ++ w ∷ [])) (one_word t u a) f)

wrong_alike : (k : TextKind) (ts us : List Token) (t u : Token) → AreAlike ts us → IsAlike t u → IsWrongWithin k ts t → IsWrongWithin k us u
wrong_alike BadByte ts us t u h a w = sym a.kind ∙ w
wrong_alike BadWord ts us t u h a w = sym a.kind ∙ w
wrong_alike NumberTooBig ts us t u h a w = sym a.kind ∙ w
wrong_alike Unexpected ts us t u h a w = (subst IsPlain a.kind w.0, λ f. w.1 (follows_alike us ts u t (all_back ts us h) (back t u a) f))
wrong_alike Operators ts us t u h a w = (follows_alike ts us t u h a w.0, excess_alike ts us t u h a w.1)
wrong_alike Nested ts us t u h a w = absurd w
wrong_alike Ended ts us t u h a w = (sym a.kind ∙ w.0, λ f s p. w.1 f s (subst (λ (l : List Word). IsFile f s l) (sym (same_words ts us h)) p))

pub stop_alike : (ts us : List Token) (f : TextFault) → AreAlike ts us → StopWithin ts f → StopWithin us f
stop_alike ts us f h s =
    let c = cut_as ts s.before s.token s.behind us s.parts h in
    record {
      before = c.before;
      token = c.token;
      behind = c.behind;
      parts = c.is;
      begins = subst BeginsFile (same_words s.before c.before c.first) s.begins;
      limit = keep_alike s.before c.before c.first s.limit;
      wrong = wrong_alike f.kind s.before c.before s.token c.token c.first c.one s.wrong;
      line = s.line ∙ ap (λ (p : TextPlace). p.line) c.one.place;
      column = s.column ∙ ap (λ (p : TextPlace). p.column) c.one.place;
    }
