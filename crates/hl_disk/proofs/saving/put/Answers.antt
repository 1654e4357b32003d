use Rattle.std.proofs.Common.{◌≡◌, length, Result, Ok, Err, OnOk, None, arith, refl}
use Rattle.hl_media.specs.declared.failed.Failed.{Failed}
use Rattle.hl_disk.proofs.Exits.{first_exit, second_exit, saved}
use Rattle.hl_disk.proofs.saving.put.Goals as goal

pub returns-in_err-write_synced-clause-saving : goal.returns-in_err-write_synced-clause-saving
returns-in_err-write_synced-clause-saving g c =
    let is_block : length c.encode_record.new.out ≡ 4096 = omega arith in
    let w = rw (c.start_of-start.ensures, c.as_slice-bytes.ensures.value) at c.write_synced.ensures.did in
    first_exit _ c.args.number c.args.files.now.tree c.args.dump.now.«record» c.args.dump.now.bytes.items c.encode_record.new.out c.requires.packed c.requires.numbered is_block c.encode_record.ensures.bytes
    _ _ None _ w

pub returns-clause-saved : goal.returns-clause-saved
returns-clause-saved g c =
    let is_block : length c.encode_record.new.out ≡ 4096 = omega arith in
    let w = rw (c.start_of-start.ensures, c.as_slice-bytes.ensures.value) at c.in_ok-write_synced.ensures.did in
    let w2 = rw c.place_of-place.ensures at c.write_synced-2.ensures.did in
    on_ok c.write_synced-2.result _ (λ u e.
    saved _ c.args.number c.args.files.now.tree c.args.dump.now.«record» c.args.dump.now.bytes.items c.encode_record.new.out c.requires.packed c.requires.numbered is_block c.encode_record.ensures.bytes
    _ _ _ _ w u (rw e at w2))
  where
    on_ok : (r : Result (Unit {0}) Failed) (P : Type 0) → ((u : Unit {0}) → r ≡ Ok u → P) → OnOk r P
    on_ok (Ok u) P holds = holds u refl
    on_ok (Err e) P holds = tt

pub returns-clause-saving : goal.returns-clause-saving
returns-clause-saving g c =
    let is_block : length c.encode_record.new.out ≡ 4096 = omega arith in
    let w = rw (c.start_of-start.ensures, c.as_slice-bytes.ensures.value) at c.in_ok-write_synced.ensures.did in
    let w2 = rw c.place_of-place.ensures at c.write_synced-2.ensures.did in
    second_exit _ c.args.number c.args.files.now.tree c.args.dump.now.«record» c.args.dump.now.bytes.items c.encode_record.new.out c.requires.packed c.requires.numbered is_block c.encode_record.ensures.bytes
    _ _ _ _ w _ w2
