-- Each kind of step keeps the rule: a draw, a split, a join. What a closed counter's word says.
use Rattle.std.proofs.Common.{◌≡◌, ◌≢◌, ℕ, suc, ◌+◌, ◌%◌, ◌^◌, ◌<◌, ◌≤◌, min, List, [], ◌∷◌, ◌++◌, set, ⊎_elim, refl}
use Rattle.std.proofs.Common.{sym, ap, ◌∙◌, subst, arith}
use Rattle.std.specs.Prelude.{slice_index, slice_set}
use Rattle.std.proofs.Math.Nat.{mod-eq_of_lt, min-eq_left, min-eq_right}
use mathlib.Core.Option.{some, some-injective}
use mathlib.Core.Logic.{dite}
use native.Mathlib.Decide.{dec_le}
use lib.ListN.{get_elem?}
use Rattle.atomic_table.specs.Table.{State, Me, Step, Act, keeps, Allows, Splits, Joins, Final, Seen, Valid}
use Rattle.atomic_table.specs.Table.{homes_after, carried_after}
use Rattle.atomic_table.proofs.Lists.{at_set, at_snoc}
use Rattle.tickets.specs.declared.view.View.{View}
use Rattle.tickets.specs.Draws.{times, numbers_below}
use Rattle.tickets.specs.Rule.{total, Fits, IsHandedOut, Drew, numbered_view, late_view, kept_part, new_part}
use Rattle.tickets.specs.Rule.{joined_view}
use Rattle.tickets.specs.Rule.{spent_view}
use Rattle.tickets.proofs.Totals.{times_append, is_below, total_set, total_more, total_same, total_snoc, total_has}
use Rattle.tickets.proofs.Totals.{total_less, total_alone}

AllFit : ℕ → ℕ → List View → Type 0
AllFit limit word views = (by : ℕ) (v : View) → get_elem? views by ≡ some v → Fits limit word v

fits_set : (limit before after : ℕ) (views : List View) (id : ℕ) (w : View) → before ≤ after
    → ((by : ℕ) (v : View) → get_elem? views by ≡ some v → Fits limit before v) → Fits limit after w
    → (by : ℕ) (v : View) → get_elem? (set views id w) by ≡ some v → Fits limit after v
fits_set limit before after views id w more others mine by v e =
    ⊎_elim
    (λ (new : (by ≡ id) × (w ≡ v)). subst (Fits limit after) new.1 mine)
    (λ (old : (by ≢ id) × (get_elem? views by ≡ some v)).
    let was = others by v old.1 in (was.0, was.1, λ late. let at_limit : limit ≤ before = was.2 late in omega arith))
    (at_set views id by w v e)

-- what a draw asks for, of the words
abbrev Drawn : {S : Type 0} → ℕ → ℕ → Me S View → Step S → State S View → List ℕ → Type 0
Drawn {S} key id me st s words = (w : View) × (a : Act S) × Valid s.homes me.1 a
    × IsHandedOut key record {
      words = slice_set words 0 ((slice_index words 0 + 1) % 2 ^ 64);
      homes = homes_after s.homes me.1 a;
      views = slice_set s.views id w;
    }
    × Drew st me (slice_index words 0) (w, carried_after me.1 a)

-- to draw keeps the rule of the counter: the number that was there is handed out to this seat
pub draws : {S : Type 0} (slots id key : ℕ) (me : Me S View) (st : Step S) → me.0.limit ≡ key → me.0.late ≡ 0
    → me.0.spare < me.0.parts → Allows (IsHandedOut key) slots id me 0 (λ n. (n + 1) % 2 ^ 64) (Drew st me)
draws {S} slots id key me st same_limit not_late some_part s h homes at less =
    let v = me.0 in
    let word : ℕ = h.0 in
    let small : key < 65536 = h.2 in
    let parts = h.3 in
    let numbers = h.4 in
    let bound : word ≤ key + total (λ u. u.late) s.views = h.5 in
    let fits = h.6 in
    let few : total (λ u. u.late) s.views ≤ total (λ u. u.parts) s.views =
    total_less (λ u. u.late) (λ u. u.parts) s.views (λ i u e. let f : u.late + u.spare ≤ u.parts = (fits i u e).0 in
    omega arith) in
    let known : total (λ u. u.parts) s.views ≡ 65 = parts in
    let grown : (word + 1) % 2 ^ 64 ≡ suc word =
    let below : word + 1 < 2 ^ 64 = omega arith in mod-eq_of_lt below ∙ (omega arith) in
    let grown_words : ((word + 1) % 2 ^ 64) ∷ [] ≡ suc word ∷ [] = ap (λ k. k ∷ []) grown in
    subst (Drawn key id me st s) (sym h.1)
    (dite (dec_le key word)
    (λ (late : key ≤ word).
    let w = late_view v in (
      w,
      keeps,
      tt,
      (
        suc word,
        grown_words,
        small,
        total_same (λ u. u.parts) s.views id v w at refl ∙ parts,
        (λ x. total_same (λ u. times x u.drawn) s.views id v w at refl ∙ numbers x
            ∙ ap (λ n. times x (numbers_below n)) (min-eq_left late ∙ sym (min-eq_left (omega arith)))),
        (let more : total (λ u. u.late) (set s.views id w) ≡ total (λ u. u.late) s.views + 1 =
            total_more (λ u. u.late) s.views id v w 1 at refl in
            omega arith),
        fits_set key word (suc word) s.views id w (omega arith) fits (
          (let none : v.late ≡ 0 = not_late in let part : v.spare < v.parts = some_part in omega arith),
          (fits id v at).1,
          λ _. omega arith,
        ),
      ),
      ((λ under. let before : word < v.limit = under in absurd (omega arith)), λ _. refl),
    ))
    (λ early.
    let under : word < key = omega arith in
    let w = numbered_view v word in
    let low : min key word ≡ word = min-eq_right (omega arith) in
    let high : min key (suc word) ≡ suc word = min-eq_right under in
    let given : (x : ℕ) → total (λ u. times x u.drawn) s.views ≡ times x (numbers_below word) =
    λ x. numbers x ∙ ap (λ n. times x (numbers_below n)) low in (
      w,
      keeps,
      tt,
      (
        suc word,
        grown_words,
        small,
        total_same (λ u. u.parts) s.views id v w at refl ∙ parts,
        (λ x. total_more (λ u. times x u.drawn) s.views id v w (times x (word ∷ [])) at
            (times_append x v.drawn (word ∷ []))
            ∙ ap (λ t. t + times x (word ∷ [])) (given x)
            ∙ sym (times_append x (numbers_below word) (word ∷ []))
            ∙ ap (λ n. times x (numbers_below n)) (sym high)),
        (let same : total (λ u. u.late) (set s.views id w) ≡ total (λ u. u.late) s.views =
            total_same (λ u. u.late) s.views id v w at refl in
            omega arith),
        fits_set key word (suc word) s.views id w (omega arith) fits (
          (fits id v at).0,
          (λ none. let part : v.spare < v.parts = some_part in absurd (omega arith)),
          λ some_late. absurd (omega arith),
        ),
      ),
      (
        (λ _. (
          refl,
          λ x has. is_below x word
              (let mine : times x v.drawn ≤ total (λ u. times x u.drawn) s.views = total_has (λ u. times x u.drawn)
              s.views id v at in
              let all : total (λ u. times x u.drawn) s.views ≡ times x (numbers_below word) = given x in
              omega arith),
        )),
        λ past. let beyond : v.limit ≤ word = past in absurd (omega arith),
      ),
    )))

-- to split a seat keeps the rule
pub splits : {S : Type 0} (id key : ℕ) (v : View) → 0 < v.spare → v.spare < v.parts
    → Splits {S = S} (IsHandedOut key) id v (kept_part v) (new_part v)
splits id key v some_spare some_part s h at =
    let word : ℕ = h.0 in
    let left = kept_part v in
    let right = new_part v in
    let fits = h.6 in
    let sum : (of : View → ℕ) → of left + of right ≡ of v → total of (set s.views id left ++ right ∷ []) ≡ total of
    s.views =
    λ of cut.
    let one : total of (set s.views id left) + of v ≡ total of s.views + of left = total_set of s.views id v left at in
    let two : total of (set s.views id left ++ right ∷ []) ≡ total of (set s.views id left) + of right =
    total_snoc of (set s.views id left) right in
    omega arith in (
      word,
      h.1,
      h.2,
      sum (λ u. u.parts) (omega arith) ∙ h.3,
      (λ x. sum (λ u. times x u.drawn) (omega arith) ∙ h.4 x),
      (let same : total (λ u. u.late) (set s.views id left ++ right ∷ []) ≡ total (λ u. u.late) s.views =
          sum (λ u. u.late) (omega arith) in
          let bound : word ≤ key + total (λ u. u.late) s.views = h.5 in
          omega arith),
      λ by u e. ⊎_elim
          (λ was. fits_set key word word s.views id left (omega arith) fits (
            (let all : v.late + v.spare ≤ v.parts = (fits id v at).0 in omega arith),
            (λ none. absurd (omega arith)),
            (fits id v at).2,
          ) by u was)
          (λ (new : right ≡ u). subst (Fits key word) new
          ((omega arith), (λ none. absurd (omega arith)), λ late. absurd (omega arith)))
          (at_snoc (set s.views id left) right u by e),
    )

-- to join two seats keeps the rule
pub joins : {S : Type 0} (id key : ℕ) (v : View) (other : ℕ) (w : View)
    → Joins {S = S} (IsHandedOut key) id v other w (joined_view v w) spent_view
joins id key v other w s h at apart there =
    let word : ℕ = h.0 in
    let both = joined_view v w in
    let fits = h.6 in
    let mine = fits id v at in
    let theirs = ⊎_elim
    (λ (same : (other ≡ id) × (both ≡ w)). absurd (apart same.0))
    (λ (old : (other ≢ id) × (get_elem? s.views other ≡ some w)). fits other w old.1)
    (at_set s.views id other both w there) in
    let views = set (set s.views id both) other spent_view in
    let sum : (of : View → ℕ) → of both ≡ of v + of w → of spent_view ≡ 0 → total of views ≡ total of s.views =
    λ of whole none.
    let one : total of (set s.views id both) + of v ≡ total of s.views + of both = total_set of s.views id v both at in
    let two : total of views + of w ≡ total of (set s.views id both) + of spent_view =
    total_set of (set s.views id both) other w spent_view there in
    omega arith in (
      word,
      h.1,
      h.2,
      sum (λ u. u.parts) refl refl ∙ h.3,
      (λ x. sum (λ u. times x u.drawn) (times_append x v.drawn w.drawn) refl ∙ h.4 x),
      (let same : total (λ u. u.late) views ≡ total (λ u. u.late) s.views = sum (λ u. u.late) refl refl in
          let bound : word ≤ key + total (λ u. u.late) s.views = h.5 in
          omega arith),
      fits_set key word word (set s.views id both) other spent_view (omega arith)
          (fits_set key word word s.views id both (omega arith) fits (
            (let a : v.late + v.spare ≤ v.parts = mine.0 in let b : w.late + w.spare ≤ w.parts = theirs.0 in omega
                arith),
            (λ none. (λ i. mine.1 (omega arith) i ++ theirs.1 (omega arith) i)),
            λ late. dite (dec_le 1 v.late) (λ l. mine.2 l) (λ l. theirs.2 (omega arith)),
          ))
          ((omega arith), (λ _. refl), λ late. absurd (omega arith)),
    )

-- by the rule no number below the last is handed out twice, and none is left out once all seats are joined
pub closes : {S : Type 0} (id key r : ℕ) (v : View) (words : List ℕ) (slots : List S)
    → Final (Seen (IsHandedOut key) id v) words slots → get_elem? words 0 ≡ some r
    → ((x : ℕ) → times x v.drawn ≤ times x (numbers_below (min key r)))
    × (v.parts ≡ 65 → (x : ℕ) → times x v.drawn ≡ times x (numbers_below (min key r)))
closes id key r v words slots final read =
    let s = final.0 in
    let h = final.1.0 in
    let at = final.1.1 in
    let fits = h.6 in
    let is : h.0 ≡ r = some-injective h.0 r (ap (λ l. get_elem? l 0) (sym h.1 ∙ final.2) ∙ read) in
    let given : (x : ℕ) → total (λ u. times x u.drawn) s.views ≡ times x (numbers_below (min key r)) =
    λ x. h.4 x ∙ ap (λ k. times x (numbers_below (min key k))) is in (
      (λ x. subst (λ k. times x v.drawn ≤ k) (given x) (total_has (λ u. times x u.drawn) s.views id v at)),
      λ whole x. sym (total_alone (λ u. u.parts) (λ u. times x u.drawn) s.views id v at
          (λ j u e none. ap (times x) ((fits j u e).1 none)) (h.3 ∙ sym whole)) ∙ given x,
    )
