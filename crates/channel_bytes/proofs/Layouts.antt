-- Control, status and enable as parts of an image.
-- Assumes nothing.
use mathlib.Core.Path.{◌≡◌, refl, ◌∙◌, ap}
use mathlib.Core.Bool.{false}
use mathlib.Core.List.{List, [], ◌∷◌}
use Prim.Native.Nat.{ℕ, ◌+◌}
use lib.ListN.{get_or}
use Rattle.wire.specs.Field.{bits_at}
use Rattle.wire.specs.Image.{part}
use Rattle.wire.proofs.Bytes.{no_bytes, cons-bytes}
use Rattle.wire.proofs.Images.{Layout}
use Rattle.wire.proofs.Built.{byte}
use Rattle.channel_bytes.specs.declared.Control.{Control}
use Rattle.channel_bytes.specs.declared.Status.{Status}
use Rattle.channel_bytes.specs.declared.Enable.{Enable}
use Rattle.channel_bytes.specs.Bytes.{control_at, control_byte, misnumbered, status_at, status_byte, enable_at, enable_low, enable_high}
use Rattle.channel_bytes.proofs.Bytes.{control-laid, status-laid, low-laid, high-laid}
use Rattle.channel_bytes.proofs.RoundTrip.{control-read-write, control-numbered, status-read-write, enable-read-write}
use Rattle.channel_bytes.proofs.RoundTrip.{control-write-read, status-write-read, enable-low-write-read, enable-high-write-read}

abbrev pub control_layout : Layout 1 Control
control_layout =
    byte
    record {
      put = control_byte;
      get = control_at;
      shift = 7;
      width = 1;
      Fits = λ c. misnumbered c ≡ false;
      small = λ c. (control-laid c).small;
      back = control-read-write;
      clear = λ c. (control-laid c).fields.1.1.1.1.1.0;
      fit = control-numbered;
      exact = control-write-read;
    }

abbrev pub status_layout : Layout 1 Status
status_layout =
    byte
    record {
      put = status_byte;
      get = status_at;
      shift = 2;
      width = 1;
      Fits = λ s. Unit {0};
      small = λ s. (status-laid s).small;
      back = λ s h. status-read-write s;
      clear = λ s. (status-laid s).fields.1.1.0;
      fit = λ b. tt;
      exact = status-write-read;
    }

abbrev pub enable_layout : Layout 2 Enable
enable_layout =
    record {
      image = λ e. enable_low e ∷ enable_high e ∷ [];
      fields = λ l at. enable_at (get_or l at 0) (get_or l (at + 1) 0);
      reserved = λ at. part at 2 4 ∷ part (at + 1) 2 6 ∷ [];
      Fits = λ e. Unit {0};
      long = λ e. refl;
      bytes = λ e. cons-bytes (low-laid e).small (cons-bytes (high-laid e).small no_bytes);
      back = λ e l at q h. ap (λ (m : List ℕ). enable_at (get_or m 0 0) (get_or m 1 0)) q ∙ enable-read-write e;
      clear =
          λ e l at q. (
            ap (λ (m : List ℕ). bits_at (get_or m 0 0) 2 4) q ∙ (low-laid e).fields.1.1.0,
            (ap (λ (m : List ℕ). bits_at (get_or m 1 0) 2 6) q ∙ (high-laid e).fields.1.1.0, tt),
          );
      fit = λ l at h. tt;
      stays =
          λ l at h z i.
          (enable-low-write-read (get_or l (at + 1) 0) (get_or l at 0) (h.below at)).1 z.0 i
          ∷ (enable-high-write-read (get_or l at 0) (get_or l (at + 1) 0) (h.below (at + 1))).1 z.1.0 i ∷ [];
    }
