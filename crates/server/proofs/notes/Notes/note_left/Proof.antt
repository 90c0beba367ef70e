-- The body is empty: the borrow of the record is opened and closed again at the list with the call in front. The listener is only looked at by clauses.
use Rattle.std.proofs.Common.{ℕ, List, [], ◌∷◌, ◌<◌, ◌^◌, length, refl, MutBor}
use seplogic.Ra.Ura.{Ura}
use mir.Syntax.{named}
use mir.Val.{Val, vunit, vptr}
use base.Logic.{SProp, ent, sep, emp, via, fst∗, id⊢}
use base.Fml.{Fml, GName, Lft, Share, ftrue, flft, fobs, fbor}
use prog.Memory.{Memory}
use prog.Routine.{Routine}
use prog.Wp.{Calls, Loops, WpFn, Tables}
use types.Logic.{Logic, sem}
use contract.Monad.{Fun}
use contract.Running.{tables, tables_of}
use types.Kit.{‵, ◌⊛◌, ◌$◌, ◌∵◌, !, qed, by, move, keep, drop, use1, split, join, fsplit, fsplit3, fjoin, fjoin3, feq_i, suffices, frame, done}
use types.Run.{unit_lit, of_opd, returns, enter}
use types.SemTy.{Body}
use types.ByLocal.{alloc_all, pass_all, free_all, look_at, sets}
use sound.WpLaws.{WpFn-mono}
use denote.RattleType.{RattleType, owns}
use denote.Memory.{mem}
use denote.Ref.{Bor, MutRef, ShrRef, mut_vals, mut_Tells, shr_vals, shr_Tells}
use denote.Builtin.{u8}
use denote.Exit.{yes}
use denote.Signature.{plain}
use denote.Slice.{ShrSlice, slice_val, shr_slice_vals, shr_slice_Tells}
use denote.Steps.{opens, closes}
use denote.Triple.Entry.{on_entry}
use denote.Triple.Spec.{Meets, triple_of}
use denote.Triple.Table.{entered}
use denote.Triple.Walked.{says, Stays, stay_ref, stay_none_slice, stay_none_ref, walk_of, AllGo, Goes-ref, Goes-none_slice, Goes-none_ref, Walks, ends_at, walked, walk_Meets}
use Rattle.server.specs.declared.notes.Notes.{Notes}
use Rattle.std.specs.contracts.net.tcp.TcpListener as tcp
use Rattle.sockets.specs.Host.{arrivals_of}
use Rattle.sockets.specs.contracts.raw.HostListener as host
use Rattle.server.specs.Calls.{Left}
use Rattle.server.specs.contracts.notes.Notes as kind
use Rattle.server.specs.contracts.notes.Notes.note_left.Key.{name as #note_left}
use Rattle.server.specs.contracts.notes.Notes.note_left as contract_of
use Rattle.server.proofs.notes.Notes.note_left.Statement as stated
use Rattle.server.proofs.notes.Notes.note_left.Code as code

abbrev listener : RattleType
listener = host.the_row tcp.the_row

-- the record, the bytes of the address and the listener
abbrev Arguments : Type 0
Arguments = MutBor Notes × (Bor (List ℕ) × (Bor listener.Denot × Unit {0}))

abbrev stayed : Stays (contract_of.ended).signature.params (contract_of.ended).kept
stayed = (stay_ref (0 ∷ []) tt (plain (λ _. kind.the_row)), (stay_none_slice (1 ∷ []) tt (plain (λ _. u8)) yes, (stay_none_ref (2 ∷ []) tt (plain (λ _. listener)) yes, tt)))

module _ {M : Type 1} {𝓤 : Ura M} (𝓛 : Logic 𝓤) (at_mem : Memory → SProp 𝓤) (run : Routine → Fun 𝓤) (κ κ₁ κ₂ : Lft) (q q₁ q₂ : Share) (block offset : ℕ) (γ : GName) (old : Notes) (bytes : Bor (List ℕ)) (left : Bor listener.Denot) where
  open 𝓛 use {H, A}

  abbrev arguments : Arguments
  arguments = (record { ref_ptr = (block, offset); ghost_name = γ; now = old }, (bytes, (left, tt)))

  -- the record behind the borrow at the end
  abbrev new : Notes
  new = record { marker = old.marker; calls = Left bytes.now (arrivals_of left.now) ∷ old.calls }

  abbrev values : List Val × (List Val × (List Val × Unit {0}))
  values = (vptr block offset ∷ [], (slice_val bytes.ref_ptr (length bytes.now) ∷ [], (vptr left.ref_ptr.0 left.ref_ptr.1 ∷ [], tt)))

  -- the address and the listener, which are not touched
  abbrev slices : Fml
  slices = owns (ShrSlice (named 1) κ₁ u8 ∷ ShrRef (named 2) κ₂ listener ∷ []) arguments.1 values.1

  abbrev at_end : Val → SProp 𝓤
  at_end = (walk_of 𝓛 contract_of.ended stayed (contract_of.clauses 𝓛 at_mem run)).post (((κ, (κ₁, (κ₂, tt))), (q, (q₁, (q₂, tt))), tt, arguments, values), tt)

  ends : ent 𝓤 (sep 𝓤 (A.obs γ ((kind.the_row).coded.code new)) (sep 𝓤 (A.bor κ (Body (mem kind.the_row) block offset γ)) (sep 𝓤 (A.lft κ q) (sep 𝓤 (sem 𝓛 slices) (sep 𝓤 (A.lft κ₁ q₁) (sep 𝓤 (A.lft κ₂ q₂) (emp 𝓤))))))) (at_end vunit)
  ends =
      qed 𝓛 (‵ (fobs γ ((kind.the_row).coded.code new)) ∷ ‵ (fbor κ (Body (mem kind.the_row) block offset γ)) ∷ ‵ (flft κ q) ∷ ‵ slices ∷ (‵ (flft κ₁ q₁) ⊛ (‵ (flft κ₂ q₂) ⊛ ‵ ftrue)) ∷ []) ∵
      suffices ! _ (ends_at 𝓛 contract_of.ended stayed (contract_of.clauses 𝓛 at_mem run) (((κ, (κ₁, (κ₂, tt))), (q, (q₁, (q₂, tt))), tt, arguments, values), tt) vunit tt (new, (tt, (tt, tt))) (tt, (tt, (tt, tt)))) $ says ! refl $ move ! (2 ∷ 4 ∷ []) $ join ! $
      frame ! $ feq_i ! (List Val) (vptr block offset ∷ []) (vptr block offset ∷ []) refl $ fjoin3 ! $ fjoin ! $
      feq_i ! (List Val) (vunit ∷ []) (vunit ∷ []) refl $ move ! (1 ∷ 0 ∷ []) $ done !

  module _ (C : Calls 𝓤 H) (Λ : Loops 𝓤 H) where
    walk : length bytes.now < 2 ^ 64
        → ent 𝓤 (on_entry 𝓛 contract_of.signature (κ, (κ₁, (κ₂, tt))) (q, (q₁, (q₂, tt))) arguments values)
        (WpFn 𝓤 H C Λ code.function (vptr block offset ∷ slice_val bytes.ref_ptr (length bytes.now) ∷ vptr left.ref_ptr.0 left.ref_ptr.1 ∷ []) at_end)
    walk bytes_fit =
        qed 𝓛 ((‵ (flft κ q) ⊛ (‵ (flft κ₁ q₁) ⊛ (‵ (flft κ₂ q₂) ⊛ ‵ ftrue))) ∷ ‵ (owns (MutRef (named 0) κ kind.the_row ∷ ShrSlice (named 1) κ₁ u8 ∷ ShrRef (named 2) κ₂ listener ∷ []) arguments values) ∷ []) ∵ split ! $ move ! (2 ∷ []) $ fsplit ! $ fsplit3 ! $ drop ! $ move ! (0 ∷ 1 ∷ 3 ∷ []) $
        enter ! C Λ code.function (vptr block offset ∷ slice_val bytes.ref_ptr (length bytes.now) ∷ vptr left.ref_ptr.0 left.ref_ptr.1 ∷ []) _ $
        alloc_all ! (λ locals. pass_all ! refl ((tt, tt), ((tt, (tt, (record { fits = bytes_fit }, tt))), ((tt, tt), tt))) $
        -- the borrow is opened at the old record ..
        move ! (0 ∷ 1 ∷ 2 ∷ []) $ opens ! tt kind.the_row {h = old} block offset (λ held.
        sets ! (of_opd ! (unit_lit !)) refl (tt, tt) $
        -- .. and closed at the new one, which the same bytes stand for
        move ! (1 ∷ []) $ use1 𝓛 (‵ ((kind.the_row).own_val new held)) (id⊢ 𝓤 _) $ move ! (1 ∷ 0 ∷ []) $ closes ! tt kind.the_row new held block offset $
        returns ! (look_at ! 0 refl) $ free_all ! refl $
        keep ! (0 ∷ 1 ∷ 2 ∷ 3 ∷ 4 ∷ []) $ by ! ends))

module _ {M : Type 1} {𝓤 : Ura M} (𝓛 : Logic 𝓤) (at_mem : Memory → SProp 𝓤) (run : Routine → Fun 𝓤) where
  open 𝓛 use {H}

  walks : (C : Calls 𝓤 H) (Λ : Loops 𝓤 H) → Walks 𝓛 contract_of.ended stayed (WpFn 𝓤 H C Λ code.function) (contract_of.clauses 𝓛 at_mem run)
  walks C Λ = walked 𝓛 contract_of.ended stayed (contract_of.clauses 𝓛 at_mem run) (WpFn 𝓤 H C Λ code.function)
      (λ lifetimes. (mut_vals, (shr_slice_vals, (shr_vals, tt))))
      (λ lifetimes. (mut_Tells (named 0) lifetimes.0 kind.the_row, (shr_slice_Tells (named 1) lifetimes.1.0 u8, (shr_Tells (named 2) lifetimes.1.1.0 listener, tt))))
      (λ lifetimes shares bounds given _ are. via 𝓤 _ (fst∗ 𝓤 _ (emp 𝓤)) (walk 𝓛 at_mem run lifetimes.0 lifetimes.1.0 lifetimes.1.1.0 shares.0 shares.1.0 shares.1.1.0
      given.0.ref_ptr.0 given.0.ref_ptr.1 given.0.ghost_name given.0.now given.1.0 given.1.1.0 C Λ are.1.0.0.1.0))

  goes : AllGo 𝓛 3 (contract_of.signature).params (contract_of.ended).kept stayed
  goes = (Goes-ref 𝓛 3 0 tt (plain (λ _. kind.the_row)), (Goes-none_slice 𝓛 3 (1 ∷ []) tt (plain (λ _. u8)) yes, (Goes-none_ref 𝓛 3 (2 ∷ []) tt (plain (λ _. listener)) yes, tt)))

meets : {M : Type 1} {𝓤 : Ura M} (𝓛 : Logic 𝓤) → (at_mem : Memory → SProp 𝓤) (run : Routine → Fun 𝓤) (𝓣 : Tables 𝓤 𝓛.H)
    → Meets 𝓛 contract_of.signature (WpFn 𝓤 𝓛.H 𝓣.C 𝓣.Λ code.function) (contract_of.spec 𝓛 at_mem run)
meets {𝓤 = 𝓤} 𝓛 at_mem run 𝓣 = walk_Meets 𝓛 contract_of.ended stayed (goes 𝓛 at_mem run) (contract_of.clauses 𝓛 at_mem run) (WpFn 𝓤 𝓛.H 𝓣.C 𝓣.Λ code.function) (WpFn-mono 𝓤 𝓛.H 𝓛.laws 𝓣 code.function) (walks 𝓛 at_mem run 𝓣.C 𝓣.Λ)

pub note_left_spec : {M : Type 1} → stated.statement M
unfolding tables_of
note_left_spec 𝓤 𝓛 𝓜 𝓡 wired =
    entered 𝓤 𝓛.H (triple_of 𝓛 contract_of.signature (contract_of.spec 𝓛 𝓜.mem 𝓡.returns))
    (tables 𝓤 𝓛.H 𝓜 𝓡 𝓡.env).C (tables 𝓤 𝓛.H 𝓜 𝓡 𝓡.env).Λ #note_left code.function (code.unfolded 𝓤 𝓛.H 𝓜 𝓡 wired)
    (meets 𝓛 𝓜.mem 𝓡.returns (tables_of 𝓤 𝓛.H 𝓜 (tables 𝓤 𝓛.H 𝓜 𝓡 𝓡.env)))
