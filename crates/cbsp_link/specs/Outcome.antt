-- What a call returned beside what a definition gives: the same, but that memory may run out. Own.
use Rattle.std.specs.Prelude.{◌≡◌, ℕ, Option, Some, None, Result, Ok, Err}
use Rattle.cbsp_link.specs.declared.fault.LinkFault.{LinkFault}
use Rattle.cbsp_link.specs.declared.fault.LinkFault.TheVariants.{MissingElement, WrongElement}
use Rattle.cbsp_link.specs.declared.fault.LinkError.{LinkError}
use Rattle.cbsp_link.specs.declared.fault.LinkError.TheVariants as errors

infixl 10 ◌>>=◌
abbrev pub ◌>>=◌ : {A B : Type 0} → Result A LinkFault → (A → Result B LinkFault) → Result B LinkFault
(Ok x) >>= f = f x
(Err e) >>= f = Err e

-- an error is the fault of the definition, unless memory ran out
abbrev pub Fails : {Y : Type 0} → LinkError → Result Y LinkFault → Type 0
Fails errors.OutOfMemory given = Unit {0}
Fails (errors.Fault f) given = given ≡ Err f

-- a result, seen by view, is what the definition gives, unless memory ran out
abbrev pub Gives : {X Y : Type 0} → (X → Y) → Result X LinkError → Result Y LinkFault → Type 0
Gives view (Ok x) given = given ≡ Ok (view x)
Gives view (Err e) given = Fails e given

-- the value of an element that the message needs
abbrev pub needed : {X : Type 0} → ℕ → Option X → Result X LinkFault
needed n None = Err (MissingElement n)
needed n (Some x) = Ok x

-- the value of an element, if it is one
abbrev pub or_wrong : {X : Type 0} → ℕ → Option X → Result X LinkFault
or_wrong n None = Err (WrongElement n)
or_wrong n (Some x) = Ok x

-- nothing, if no fault was met
abbrev pub faultless : {X : Type 0} → X → Option LinkFault → Result X LinkFault
faultless x None = Ok x
faultless x (Some f) = Err f
