-- A step of the cutting, as the loops over a text take it: at the character at place n.
use Rattle.std.proofs.Common.{◌≡◌, ℕ, ◌+◌, ◌<◌, ◌≤◌, List, [], ◌∷◌, ◌++◌, length, get_or, drop, refl, suc, sym, ◌∙◌, ap}
use Rattle.std.proofs.Common.{arith, subst, append_assoc}
use Rattle.std.proofs.lemmas.Bool.{le-leb, lt-leb}
use Rattle.std.proofs.lemmas.List.{at_drop_more, at_drop_all}
use Rattle.cbs_page.proofs.Cutting.{cuts_from, count_from}
use Rattle.cbs_page.specs.Text.{capacity, codes_of, IsContentOf, AreContentsOf}
use Rattle.cbs_page.specs.declared.coding.Alphabet.{Alphabet}
use Rattle.cbs_page.specs.declared.content.Content.{Content}

-- a function of the rest of a list, where the rest begins with c
pub at_place : {Y : Type 0} (f : List ℕ → Y) (cs : List ℕ) (n c : ℕ) → n < length cs → c ≡ get_or cs n c
    → f (drop n cs) ≡ f (c ∷ drop (n + 1) cs)
at_place f cs n c lt is = at_drop_more f cs n c lt ∙ ap (λ x. f (x ∷ drop (n + 1) cs)) (sym is)

-- a character that fits is put on the page that is under way
pub count-takes : (codes : ℕ → List ℕ) (limit used : ℕ) (cs : List ℕ) (n c : ℕ) → n < length cs → c ≡ get_or cs n c →
    used + length (codes c) ≤ limit →
    count_from codes limit used (drop n cs) ≡ count_from codes limit (used + length (codes c)) (drop (n + 1) cs)
count-takes codes limit used cs n c lt is fits =
    at_place (count_from codes limit used) cs n c lt is ∙ rw (le-leb (used + length (codes c)) limit fits) refl

-- a character that doesn't fit begins a further page
pub count-begins : (codes : ℕ → List ℕ) (limit used : ℕ) (cs : List ℕ) (n c : ℕ) → n < length cs → c ≡ get_or cs n c →
    limit < used + length (codes c) →
    count_from codes limit used (drop n cs) ≡ 1 + count_from codes limit (length (codes c)) (drop (n + 1) cs)
count-begins codes limit used cs n c lt is full =
    at_place (count_from codes limit used) cs n c lt is ∙ rw (lt-leb (used + length (codes c)) limit full) refl

cuts-takes : (codes : ℕ → List ℕ) (limit : ℕ) (piece cs : List ℕ) (n c : ℕ) → n < length cs → c ≡ get_or cs n c →
    length piece + length (codes c) ≤ limit →
    cuts_from codes limit piece (drop n cs) ≡ cuts_from codes limit (piece ++ codes c) (drop (n + 1) cs)
cuts-takes codes limit piece cs n c lt is fits =
    at_place (cuts_from codes limit piece) cs n c lt is ∙ rw (le-leb (length piece + length (codes c)) limit fits) refl

cuts-begins : (codes : ℕ → List ℕ) (limit : ℕ) (piece cs : List ℕ) (n c : ℕ) → n < length cs → c ≡ get_or cs n c →
    limit < length piece + length (codes c) →
    cuts_from codes limit piece (drop n cs) ≡ piece ∷ cuts_from codes limit (codes c) (drop (n + 1) cs)
cuts-begins codes limit piece cs n c lt is full =
    at_place (cuts_from codes limit piece) cs n c lt is ∙ rw (lt-leb (length piece + length (codes c)) limit full) refl

-- the contents of pages and that of one more are the contents of all of them
pub AreContentsOf-push : (alphabet : Alphabet) (closed : List (List ℕ)) (contents : List Content) (codes : List ℕ)
    (content : Content) →
    AreContentsOf alphabet closed contents → IsContentOf alphabet codes content →
    AreContentsOf alphabet (closed ++ codes ∷ []) (contents ++ content ∷ [])
AreContentsOf-push alphabet [] [] codes content held here = (here, tt)
AreContentsOf-push alphabet [] (first ∷ contents) codes content held here = absurd held
AreContentsOf-push alphabet (first ∷ closed) [] codes content held here = absurd held
AreContentsOf-push alphabet (first ∷ closed) (second ∷ contents) codes content held here =
    (held.0, AreContentsOf-push alphabet closed contents codes content held.1 here)

-- The first n characters of a text are cut: these contents hold the closed pieces, and the piece at hand has these
-- codes.
pub record HasCut (alphabet : Alphabet) (cs : List ℕ) (n : ℕ) (piece : List ℕ) (contents : List Content) : Type 0 where
  pub closed : List (List ℕ)
  pub held : AreContentsOf alphabet closed contents
  pub cut : closed ++ cuts_from (codes_of alphabet) (capacity alphabet) piece (drop n cs)
      ≡ cuts_from (codes_of alphabet) (capacity alphabet) [] cs

-- the cut goes on with a character that fits
pub HasCut-takes : (alphabet : Alphabet) (cs : List ℕ) (n : ℕ) (piece : List ℕ) (contents : List Content) (c : ℕ) →
    HasCut alphabet cs n piece contents → n < length cs → c ≡ get_or cs n c →
    length piece + length (codes_of alphabet c) ≤ capacity alphabet
    → HasCut alphabet cs (n + 1) (piece ++ codes_of alphabet c) contents
HasCut-takes alphabet cs n piece contents c had lt is fits = record {
  closed = had.closed;
  held = had.held;
  cut = ap (λ rest. had.closed ++ rest) (sym (cuts-takes (codes_of alphabet) (capacity alphabet) piece cs n c lt is
      fits)) ∙ had.cut;
}

-- the cut closes a page before a character that doesn't fit
pub HasCut-begins : (alphabet : Alphabet) (cs : List ℕ) (n : ℕ) (piece : List ℕ) (contents : List Content) (c : ℕ)
    (content : Content) →
    HasCut alphabet cs n piece contents → n < length cs → c ≡ get_or cs n c →
    capacity alphabet < length piece + length (codes_of alphabet c) → IsContentOf alphabet piece content →
    HasCut alphabet cs (n + 1) (codes_of alphabet c) (contents ++ content ∷ [])
HasCut-begins alphabet cs n piece contents c content had lt is full here = record {
  closed = had.closed ++ piece ∷ [];
  held = AreContentsOf-push alphabet had.closed contents piece content had.held here;
  cut = append_assoc had.closed (piece ∷ []) (cuts_from (codes_of alphabet) (capacity alphabet) (codes_of alphabet c)
      (drop (n + 1) cs))
      ∙ ap (λ rest. had.closed ++ rest) (sym (cuts-begins (codes_of alphabet) (capacity alphabet) piece cs n c lt is
      full)) ∙ had.cut;
}

-- at the end of the text the cut closes the last page
pub HasCut-end : (alphabet : Alphabet) (cs : List ℕ) (n : ℕ) (piece : List ℕ) (contents : List Content)
    (content : Content) →
    HasCut alphabet cs n piece contents → n ≡ length cs → IsContentOf alphabet piece content →
    AreContentsOf alphabet (cuts_from (codes_of alphabet) (capacity alphabet) [] cs) (contents ++ content ∷ [])
HasCut-end alphabet cs n piece contents content had all here =
    let ended : cuts_from (codes_of alphabet) (capacity alphabet) piece (drop n cs) ≡ piece ∷ [] =
    at_drop_all (cuts_from (codes_of alphabet) (capacity alphabet) piece) cs n (omega (arith, all)) in
    let whole : had.closed ++ piece ∷ [] ≡ cuts_from (codes_of alphabet) (capacity alphabet) [] cs =
    ap (λ rest. had.closed ++ rest) (sym ended) ∙ had.cut in
    subst (λ (cuts : List (List ℕ)). AreContentsOf alphabet cuts (contents ++ content ∷ [])) whole
    (AreContentsOf-push alphabet had.closed contents piece content had.held here)

-- there are as many contents as lists of codes
pub AreContentsOf-length : (alphabet : Alphabet) (closed : List (List ℕ)) (contents : List Content)
    → AreContentsOf alphabet closed contents →
    length contents ≡ length closed
AreContentsOf-length alphabet [] [] held = refl
AreContentsOf-length alphabet [] (content ∷ contents) held = absurd held
AreContentsOf-length alphabet (codes ∷ closed) [] held = absurd held
AreContentsOf-length alphabet (codes ∷ closed) (content ∷ contents) held = ap suc
    (AreContentsOf-length alphabet closed contents held.1)
