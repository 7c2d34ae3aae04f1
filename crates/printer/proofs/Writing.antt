-- One piece written after another is both written; and what is written leaves no choice. Assumes nothing.
use mathlib.Core.Path.{◌≡◌, refl, sym, ap, ◌∙◌}
use mathlib.Core.List.{List, [], ◌++◌, append_assoc}
use Prim.Native.Nat.{ℕ, ◌+◌, ◌≤◌}
use native.Mathlib.Nat.{add-zero}
use native.Mathlib.Omega.{arith}
use lib.ListN.{length, take, drop, length-append, length-drop, take-append-drop}
use lib.Seq.{length-take-le, take_at, drop-drop, drop-append-add}
use Rattle.printer.specs.declared.output.Output.{Output}
use Rattle.printer.specs.Wrote.{Wrote, WroteIn}
use Rattle.printer.specs.Output.{HasRoom, Adds}

pub wrote_none : (l : List ℕ) (at : ℕ) → at ≤ length l → Wrote l l [] at at
wrote_none l at h =
    record { bytes = sym (take-append-drop at l); end = sym (add-zero at); room = h }

module _ {a b u : List ℕ} {at p : ℕ} (f : Wrote a b u at p) where
  long : length (take at a ++ u) ≡ p
  long = length-append (take at a) u ∙ rw (length-take-le at a (omega (arith, f.end, f.room))) (sym f.end)

  front : b ≡ (take at a ++ u) ++ drop p a
  front = f.bytes ∙ sym (append_assoc (take at a) u (drop p a))

  -- the buffer is as long as before, and what is written ends inside
  same_long : length b ≡ length a
  same_long = ap length front ∙ length-append (take at a ++ u) (drop p a) ∙ rw (long, length-drop) (omega (arith, f.room))

  pub wrote_inside : p ≤ length b
  wrote_inside = omega (arith, same_long, f.room)

  module _ {c v : List ℕ} {r : ℕ} (g : Wrote b c v p r) where
    past : drop r b ≡ drop r a
    past =
        rw (front, g.end, ← long)
        (drop-append-add (take at a ++ u) (drop (length (take at a ++ u)) a) (length v) ∙ drop-drop (length v) (length (take at a ++ u)) a)

    pub wrote_more : Wrote a c (u ++ v) at r
    wrote_more = record {
      bytes = g.bytes ∙ rw (past, front, take_at (take at a ++ u) (drop p a) p long) (simp append_assoc);
      end = g.end ∙ rw (f.end, length-append) (omega arith);
      room = omega (arith, same_long, g.room);
    }

-- the same where each piece stays in its room
pub wrote_in_more : {m n : ℕ} {a b c u v : List ℕ} {at p r : ℕ} → WroteIn m a b u at p → WroteIn n b c v p r → WroteIn (m + n) a c (u ++ v) at r
wrote_in_more f g = record { wrote = wrote_more f.wrote g.wrote; short = omega (arith, f.short, g.short) }

-- what stays in its room stays in a larger one
pub wrote_wider : {m n : ℕ} {a b w : List ℕ} {at r : ℕ} → m ≤ n → WroteIn m a b w at r → WroteIn n a b w at r
wrote_wider h f = record { wrote = f.wrote; short = omega (arith, f.short) }

-- any two outcomes of writing the same bytes at the same place coincide: the end, and every byte of the buffer
pub wrote_unique : {before w a b : List ℕ} {at r s : ℕ} → Wrote before a w at r → Wrote before b w at s → (r ≡ s) × (a ≡ b)
wrote_unique {r = r} {s = s} f g =
    let ends : r ≡ s = f.end ∙ sym g.end in
    (ends, f.bytes ∙ rw ends (sym g.bytes))

-- the same of outputs
pub adds_none : (o : Output) → HasRoom 0 o → Adds 0 o o []
adds_none o h = record { buffer = refl; wrote = record { wrote = wrote_none o.room.now o.end (omega arith); short = omega arith } }

pub adds_more : {m n : ℕ} {a b c : Output} {u v : List ℕ} → Adds m a b u → Adds n b c v → Adds (m + n) a c (u ++ v)
adds_more f g = record { buffer = g.buffer ∙ f.buffer; wrote = wrote_in_more f.wrote g.wrote }

pub adds_wider : {m n : ℕ} {a b : Output} {u : List ℕ} → m ≤ n → Adds m a b u → Adds n a b u
adds_wider h f = record { buffer = f.buffer; wrote = wrote_wider h f.wrote }

-- what is left of the room for both
pub room_left : {m : ℕ} {a b : Output} {u : List ℕ} (n : ℕ) → Adds m a b u → HasRoom (m + n) a → HasRoom n b
room_left n f h = omega (arith, h, same_long f.wrote.wrote, f.wrote.short)
