-- What the code looks for among categories, from the front on: it only mirrors the code. What is meant is said in Dump.
-- Assumes nothing.
use Rattle.std.specs.Prelude.{Bool, true, false, cond, List, [], ◌∷◌, ◌++◌, ◌≡◌, ℕ, ◌+◌, ◌<◌, length, drop, eqb, ltb, Option, Some, None}
use Rattle.dump.specs.Categories.{type_of, category_long, categories, content_of, how_many}
use Rattle.dump.specs.Parts.{rest_of}
use Rattle.dump.specs.declared.Found.{Found}
use Rattle.dump.specs.declared.Kind.{Kind}
use Rattle.dump.specs.declared.Kind.TheVariants.{Input, Output}
use Rattle.dump.specs.Records.{pdos_for}
use Rattle.sheet.specs.Device.{Pdo}

-- how long the part at the front is; none stands there where that is 0
abbrev pub LongIs : ℕ → Option ℕ → Type 0
LongIs n None = n ≡ 0
LongIs n (Some long) = (long ≡ n) × (0 < long)

-- the categories from the first of a type on
abbrev pub from_type : ℕ → List (List ℕ) → List (List ℕ)
from_type t [] = []
from_type t (c ∷ cs) = cond (eqb (type_of c) t) (c ∷ cs) (from_type t cs)

-- the content of the first of them; where there is none, nothing
abbrev pub front_content : List (List ℕ) → List ℕ
front_content [] = []
front_content (c ∷ cs) = content_of c

-- what stands from a place on; nothing where there is no place
abbrev pub from_place : Option ℕ → List ℕ → List ℕ
from_place None l = []
from_place (Some at) l = drop at l

-- the first place that is noted counts
abbrev pub first_noted : Option ℕ → ℕ → Bool → Option ℕ
first_noted None at true = Some at
first_noted None at false = None
first_noted (Some place) at here = Some place

-- whether the one place comes before the other; what isn't there comes last
abbrev pub comes_before : Option ℕ → Option ℕ → Bool
comes_before None other = false
comes_before (Some one) None = true
comes_before (Some one) (Some other) = ltb one other

-- one of the four types, and how many categories are of these
abbrev pub known_type : ℕ → ℕ
known_type t = cond (eqb t 40) 1 0 + (cond (eqb t 41) 1 0 + (cond (eqb t 50) 1 0 + cond (eqb t 51) 1 0))

abbrev pub known_in : List (List ℕ) → ℕ
known_in cs = how_many 40 cs + (how_many 41 cs + (how_many 50 cs + how_many 51 cs))

-- what one walk finds of a dump
pub record Finds (dump : List ℕ) (r : Found) : Type 0 where
  pub fmmus : categories (from_place r.places.fmmus dump) ≡ from_type 40 (categories dump)
  pub managers : categories (from_place r.places.managers dump) ≡ from_type 41 (categories dump)
  pub inputs : categories (from_place r.places.inputs dump) ≡ from_type 50 (categories dump)
  pub outputs : categories (from_place r.places.outputs dump) ≡ from_type 51 (categories dump)
  pub order : comes_before r.places.inputs r.places.outputs ≡ ltb (length (from_type 51 (categories dump))) (length (from_type 50 (categories dump)))
  pub known : r.known ≡ known_in (categories dump)
  pub end : drop r.end dump ≡ rest_of category_long dump

-- 1 where there is one
abbrev pub standing : List (List ℕ) → ℕ
standing cs = cond (ltb 0 (length cs)) 1 0

-- more categories are of the four types than types occur
abbrev pub more_than : (fmmus managers inputs outputs : List (List ℕ)) → ℕ → Bool
more_than fmmus managers inputs outputs known = ltb (standing fmmus + standing managers + standing inputs + standing outputs) known

-- the number of each kind
abbrev pub number_of : Kind → ℕ
number_of Input = 1
number_of Output = 2

-- the PDOs, by the categories from the first of each type on: the inputs' or the outputs' first
unfoldable pub pdos_from : (inputs_first : Bool) → (inputs outputs : List (List ℕ)) → List Pdo
pdos_from inputs_first inputs outputs =
    cond inputs_first
    (pdos_for 1 (front_content inputs) ++ pdos_for 2 (front_content outputs))
    (pdos_for 2 (front_content outputs) ++ pdos_for 1 (front_content inputs))
