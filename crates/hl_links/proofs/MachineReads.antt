-- A machine that was read changes nothing of a store.
use Rattle.std.proofs.Common.{◌≡◌, ◌∙◌, Option, ap, sym, subst}
use Rattle.hl_media.specs.History.{History, state_now}
use Rattle.hl_log.specs.Logs.{with_machine}
use Rattle.hl_overlay.specs.DraftTables.{draft_of}
use Rattle.hl_store.specs.Values.{StoreValue, dirty_of, nodes_of}
use Rattle.hl_store.specs.Lying.{LiesOver}
use Rattle.hl_store.specs.Finding.{ReadsNodes, on_machine}

module _ {M : Type 0} where
  -- where nothing but the machine changed, no more than reads was made
  pub machine_reads : (history : M → Option History) (old new : StoreValue M) → new ≡ on_machine old new.log.machine → ReadsNodes history old new
  machine_reads history old new is = record {
    same = is ∙ ap (λ o. record old { log = with_machine old.log new.log.machine; overlay = o }) (sym (ap (λ (v : StoreValue M). v.overlay) is));
    keeps = λ h told c lies. record {
      over = subst (λ (v : StoreValue M). LiesOver v c (state_now h)) (sym is) (record {
        rests = lies.rests;
        sound = lies.sound;
        listed = lies.listed;
        rec = lies.rec;
        inodes = lies.inodes;
        slots = lies.slots;
        serial = lies.serial;
        possible = lies.possible;
        over = lies.over;
        tally = lies.tally;
      });
      nodes = ap (λ (v : StoreValue M). nodes_of v c) is;
    };
    drafted = λ q d lt at. ap (λ (v : StoreValue M). draft_of v.overlay.drafts q) is ∙ at;
    dirty = ap (λ (v : StoreValue M). dirty_of v) is;
    blocks = ap (λ (v : StoreValue M). v.overlay.blocks) is;
  }
