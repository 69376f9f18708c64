-- `output::put_arps` meets its contract.
-- Assumes nothing.
use Rattle.std.proofs.Common.{rules, ◌≡◌, ◌*◌, length, ℕ, ◌+◌, arith, refl, sym, ◌∙◌, take, drop, get_or, List, ◌++◌}
use Rattle.std.proofs.lemmas.Grind.{common_steps}
use Rattle.writing.specs.Writing.{over}
use Rattle.sums.specs.Number.{number_of}
use Rattle.output.specs.Output.{arps_of}
use Rattle.output.proofs.Arps.{within, left_after, arps_turn}
use Rattle.output.proofs.put_arps.Goals as goal

none_written : (vrid k : ℕ) (list room : List ℕ) → k ≡ 0 → room ≡ over (arps_of vrid (take (4 * k) list)) room
unfolding arps_of
none_written vrid k list room e = rw e refl

pub loop-k-init : goal.loop-k-init
loop-k-init c =
    record {
      size = search rules;
      left = grind (arith, common_steps);
      within = grind (arith, common_steps);
      written = none_written _ _ _ _ (search rules);
      long = refl;
    }

pub loop-k-preserved : goal.loop-k-preserved
loop-k-preserved c =
    let a = c.args in
    let l = c.loop-k.invariant in
    let k = c.loop-k.k-iterator.count in
    let chunk = c.in-Some.address.now in
    let tail = c.next.new.self.iter.rest.now in
    let n = c.in-Some.ensures.steps in
    let whole : length chunk ≡ 4 = n.0.1.1 ∙ l.size in
    let left : drop (4 * k) a.list.bytes.now ≡ chunk ++ tail = sym l.left ∙ n.0.1.0 in
    let address : c.from_be_bytes-address.result ≡ number_of (get_or chunk 0 0) (get_or chunk 1 0) (get_or chunk 2 0) (get_or chunk 3 0) =
    omega arith in
    let next : c.next.new.self.count ≡ k + 1 = n.2 in
    let here : c.in-Some.k ≡ k = n.1 in
    record {
      size = n.0.0 ∙ l.size;
      left = rw next (left_after a.list.bytes.now chunk tail k whole left);
      within = rw next (within a.list.bytes.now chunk tail k whole left l.within);
      written =
          rw (next, here)
          (arps_turn a.list.bytes.now chunk tail k whole left a.vrid _ a.room.now c.loop-k.room _ l.within l.written
          address (rw here at c.put_arp.ensures));
      long = search rules;
    }
