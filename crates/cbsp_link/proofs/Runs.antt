-- The things that octets are, one at a time.
use Rattle.std.proofs.Common.{◌≡◌, ℕ, zero, suc, ◌≤◌, List, [], ◌∷◌, ◌++◌, length, Some, Result}
use Rattle.std.proofs.Common.{Ok, Err, refl, sym, ap, ◌∙◌, append_assoc, arith}
use Rattle.std.proofs.lemmas.List.{append-nil}
use Rattle.cbsp_link.specs.declared.fault.LinkFault.{LinkFault}
use Rattle.cbsp_link.specs.Outcome.{faultless}
use Rattle.cbsp_link.specs.Run.{Run, then_run, run_within, run_of}

-- a reader of what is at the front, which is handed the first octet and the others
abbrev pub Reader : Type 0 → Type 0
Reader X = ℕ → List ℕ → Result (X × List ℕ) LinkFault

-- it takes the first octet at least
abbrev pub Takes : {X : Type 0} → Reader X → Type 0
Takes {X} front = (a : ℕ) (octets : List ℕ) (x : X × List ℕ) → front a octets ≡ Ok x → length x.1 ≤ length octets

-- a thing, and then those of a run
abbrev pub before : {X : Type 0} → X → Run X → Run X
before x r = record { items = x ∷ r.items; stop = r.stop }

-- things, and then those of a run
abbrev pub after_these : {X : Type 0} → List X → Run X → Run X
after_these xs r = record { items = xs ++ r.items; stop = r.stop }

-- more room changes no run
run_within-more : {X : Type 0} (front : Reader X) → Takes front → (j k : ℕ) (octets : List ℕ) → length octets ≤ j
    → length octets ≤ k → run_within front j octets ≡ run_within front k octets
unfolding run_within
run_within-more front takes zero zero [] hj hk = refl
run_within-more front takes zero (suc k) [] hj hk = refl
run_within-more front takes (suc j) zero [] hj hk = refl
run_within-more front takes (suc j) (suc k) [] hj hk = refl
run_within-more front takes zero k (a ∷ octets) hj hk = absurd (omega arith)
run_within-more front takes (suc j) zero (a ∷ octets) hj hk = absurd (omega arith)
run_within-more {X} front takes (suc j) (suc k) (a ∷ octets) hj hk =
    step (λ rest hr hs. run_within-more front takes j k rest hr hs) (front a octets) refl where
      step : ((rest : List ℕ) → length rest ≤ j → length rest ≤ k
          → run_within front j rest ≡ run_within front k rest)
          → (f : Result (X × List ℕ) LinkFault) → front a octets ≡ f
          → then_run f (λ rest. run_within front j rest) ≡ then_run f (λ rest. run_within front k rest)
      step same (Err e) is = refl
      step same (Ok x) is =
          let le = takes a octets x is in
          ap (λ (r : Run X). before x.0 r) (same x.1 (omega (arith, le, hj)) (omega (arith, le, hk)))

-- what is at the front is the first that is taken
pub run_of-taken : {X : Type 0} (front : Reader X) → Takes front → (a : ℕ) (octets : List ℕ) (x : X) (rest : List ℕ)
    → front a octets ≡ Ok (x, rest) → run_of front (a ∷ octets) ≡ before x (run_of front rest)
unfolding run_of run_within
run_of-taken {X} front takes a octets x rest h =
    let le = takes a octets (x, rest) h in
    let same : run_within front (length octets) rest ≡ run_within front (length rest) rest =
    run_within-more front takes (length octets) (length rest) rest le (omega arith) in
    ap (λ (f : Result (X × List ℕ) LinkFault). then_run f (λ r. run_within front (length octets) r)) h
    ∙ ap (λ (r : Run X). before x r) same

-- where a fault is at the front, nothing is taken
pub run_of-stopped : {X : Type 0} (front : Reader X) (a : ℕ) (octets : List ℕ) (f : LinkFault)
    → front a octets ≡ Err f
    → run_of front (a ∷ octets) ≡ (let r : Run X = record { items = []; stop = Some f } in r)
unfolding run_of run_within
run_of-stopped {X} front a octets f h =
    ap (λ (r : Result (X × List ℕ) LinkFault). then_run r (λ o. run_within front (length octets) o)) h

-- a loop that has taken these things takes the next
pub goes_on : {X : Type 0} (front : Reader X) → Takes front → (xs : List X) (a : ℕ) (octets : List ℕ) (x : X)
    (rest : List ℕ) (total : Run X) → front a octets ≡ Ok (x, rest)
    → after_these xs (run_of front (a ∷ octets)) ≡ total
    → after_these (xs ++ x ∷ []) (run_of front rest) ≡ total
goes_on {X} front takes xs a octets x rest total h so_far =
    let one : after_these (xs ++ x ∷ []) (run_of front rest) ≡ after_these xs (before x (run_of front rest)) =
    ap (λ (ys : List X). let r : Run X = record { items = ys; stop = (run_of front rest).stop } in r)
    (append_assoc xs (x ∷ []) (run_of front rest).items) in
    one ∙ ap (λ (r : Run X). after_these xs r) (sym (run_of-taken front takes a octets x rest h)) ∙ so_far

-- it meets a fault
pub meets : {X : Type 0} (front : Reader X) (xs : List X) (a : ℕ) (octets : List ℕ) (f : LinkFault) (total : Run X)
    → front a octets ≡ Err f → after_these xs (run_of front (a ∷ octets)) ≡ total
    → faultless total.items total.stop ≡ Err f
meets {X} front xs a octets f total h so_far =
    ap (λ (r : Run X). faultless r.items r.stop)
    (sym so_far ∙ ap (λ (r : Run X). after_these xs r) (run_of-stopped front a octets f h))

-- it comes to the end
pub is_done : {X : Type 0} (front : Reader X) (xs : List X) (total : Run X)
    → after_these xs (run_of front []) ≡ total → faultless total.items total.stop ≡ Ok xs
unfolding run_of run_within
is_done {X} front xs total so_far =
    ap (λ (r : Run X). faultless r.items r.stop) (sym so_far) ∙ ap Ok (append-nil xs)
