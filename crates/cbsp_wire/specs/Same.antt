-- When contents are the same.
use Rattle.std.proofs.Common.{◌≡◌, Bool, true, false, true≢false, ◌==◌, ◌&&◌, List, Decides, refl, sym, ap, subst, ◌∙◌}
use Rattle.std.specs.Ordering.{on, eq_of_both}
use Rattle.std.specs.Cmp.{IsEquivalence, decided, unsigned_Decides}
use Rattle.std.specs.Cmp.Lexicographic.{pointwise}
use lib.Pointwise.{pointwise_decides}
use Rattle.cbs_page.specs.declared.content.Content.{Content}

-- of two contents as many octets are used, and their octets are the same
abbrev pub same_content : Content → Content → Bool
same_content = eq_of_both (on (λ c. c.used) ◌==◌) (on (λ c. c.octets) (pointwise ◌==◌))

both : (s t : Bool) → (s && t) ≡ true → (s ≡ true) × (t ≡ true)
both true t h = (refl, h)
both false t h = absurd (true≢false (sym h))

-- they are then equal, and only then
pub same_content_decides : (x y : Content) → Decides (same_content x y) (x ≡ y)
same_content_decides x y = (
  λ same. let parts = both (x.used == y.used) (pointwise ◌==◌ x.octets y.octets) same in
      let used = (unsigned_Decides x.used y.used).0 parts.0 in
      let octets = (pointwise_decides unsigned_Decides x.octets y.octets).0 parts.1 in
      λ i. record { used = used i; octets = octets i },
  λ is. subst (λ (z : Content). same_content x z ≡ true) is
      (ap (λ (s : Bool). s && pointwise ◌==◌ x.octets x.octets) ((unsigned_Decides x.used x.used).1 refl)
      ∙ (pointwise_decides unsigned_Decides x.octets x.octets).1 refl),
)

-- so lists of contents are the same if they are equal, and only then
abbrev pub same_contents : List Content → List Content → Bool
same_contents = pointwise same_content

pub same_contents_decides : (xs ys : List Content) → Decides (same_contents xs ys) (xs ≡ ys)
same_contents_decides xs ys = pointwise_decides same_content_decides xs ys

pub same_contents_equiv : IsEquivalence same_contents
same_contents_equiv = decided same_contents same_contents_decides
