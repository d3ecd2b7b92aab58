-- A reading of a contract that is written out, for a function with a reference to a struct or a slice of structs: `Post` is one where, in every
-- model, the `ensures` that the source states is the fact of `Post`. Said once, for the uniqueness of each such function.
-- Assumes nothing.
use mathlib.Core.Path.{◌≡◌}
use seplogic.Ra.Ura.{Ura}
use base.Logic.{SProp}
use prog.Memory.{Memory}
use prog.Routine.{Routine}
use types.Logic.{Logic}
use contract.Lifetimes.{Lfts}
use contract.Monad.{Fun, fact}
use denote.Triple.Clauses.{Ended, Clauses, AtExit}
use denote.Triple.Entry.{Args, Res}

-- what a contract may say of arguments, result and parameters at exit
abbrev pub Saying : Ended → Type 1
Saying T = (κs : Lfts T.signature.lifetimes) → Args T.signature κs → Res T.signature κs → AtExit T κs → Type 0

-- the clauses that a source states, in each model
abbrev pub Source : Ended → Type 2
Source T = (M : Type 1) (𝓤 : Ura M) (𝓛 : Logic 𝓤) → (Memory → SProp 𝓤) → (Routine → Fun 𝓤) → Clauses 𝓤 T

abbrev pub States : (T : Ended) → Source T → Saying T → Type 2
States T source Post =
    (M : Type 1) (𝓤 : Ura M) (𝓛 : Logic 𝓤) (mem : Memory → SProp 𝓤) (run : Routine → Fun 𝓤) (κs : Lfts T.signature.lifetimes) (a : Args T.signature κs)
    (r : Res T.signature κs) (s : AtExit T κs) (g : (source M 𝓤 𝓛 mem run κs a).ghost) → (source M 𝓤 𝓛 mem run κs a).ensures g r s ≡ fact 𝓤 (Post κs a r s)
