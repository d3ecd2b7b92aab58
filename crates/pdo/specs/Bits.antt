-- The exact bits of each wanted sync manager.
-- Assumes nothing.
use Rattle.std.specs.Prelude.{Bool, cond, ◌&&◌, List, [], ◌∷◌, map, ℕ, suc, ◌+◌, ◌*◌, eqb, ltb}
use Rattle.sheet.specs.Device.{Pdo, Data}
use Rattle.wire.specs.Lists.{some_of, sum}
use Rattle.sheet.specs.declared.SyncManager.{SyncManager}
use Rattle.pdo.specs.declared.Oversampling.{Oversampling}
use Rattle.pdo.specs.declared.PdoDirection.{PdoDirection}
use Rattle.pdo.specs.Direction.{usage_of, kind_of}

-- the first match counts, none means 1
unfoldable pub multiplier_of : List Oversampling → ℕ → ℕ
multiplier_of [] index = 1
multiplier_of (r ∷ rs) index = cond (eqb r.pdo_index index) r.multiplier (multiplier_of rs index)

-- one multiplier for each PDO
abbrev pub multipliers_of : List Oversampling → List Pdo → List ℕ
multipliers_of t ps = map (λ (p : Pdo). multiplier_of t p.index) ps

-- the multiplier of the first PDO, and those of the others; 1 where there is none
abbrev pub first_of : List ℕ → ℕ
first_of [] = 1
first_of (w ∷ ws) = w

abbrev pub others_of : List ℕ → List ℕ
others_of [] = []
others_of (w ∷ ws) = ws

-- some sync manager has the usage
abbrev pub some_usage : ℕ → List SyncManager → Bool
some_usage usage ms = some_of (λ (m : SyncManager). eqb m.usage_type usage) ms

-- CoE is on if flag bits 0 and 1 are set and a read mailbox of length above 0 exists
abbrev pub coe_on : Bool → Bool → ℕ → List SyncManager → Bool
coe_on mailbox protocol send managers = mailbox && (protocol && (ltb 0 send && some_usage 2 managers))

unfoldable pub by_coe : Data → Bool
by_coe d = coe_on d.mailbox d.coe_protocol d.send d.managers

-- the PDOs that count: kind 0 on the CoE path, else the direction's kind
abbrev pub path_kind : Data → PdoDirection → ℕ
path_kind d r = cond (by_coe d) 0 (kind_of r)

-- the sum, over the PDOs of the path that name the sync manager, of bits times multiplier
unfoldable pub bits_of : ℕ → ℕ → List Pdo → List ℕ → ℕ
bits_of kind number [] ws = 0
bits_of kind number (p ∷ ps) ws =
    cond (eqb p.kind kind && eqb p.manager number) (sum p.lengths * first_of ws) 0 + bits_of kind number ps (others_of ws)

-- a wanted sync manager: its number, its exact bits, its address
pub record Piece : Type 0 where
  pub number : ℕ
  pub bits : ℕ
  pub address : ℕ

-- those of the usage, in rising number
unfoldable pub pieces_from : ℕ → (ℕ → ℕ) → ℕ → List SyncManager → List Piece
pieces_from usage bits k [] = []
pieces_from usage bits k (m ∷ ms) =
    cond
    (eqb m.usage_type usage)
    (record { number = k; bits = bits k; address = m.start_addr } ∷ pieces_from usage bits (suc k) ms)
    (pieces_from usage bits (suc k) ms)

-- `ws` has a multiplier for each PDO; one that is lacking is 1, and what is left over counts nowhere
unfoldable pub pieces_of : Data → List ℕ → PdoDirection → List Piece
pieces_of d ws r = pieces_from (usage_of r) (λ k. bits_of (path_kind d r) k d.pdos ws) 0 d.managers
