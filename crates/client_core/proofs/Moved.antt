-- Clients that stops of servers move: after each step the client is at a place of its script, and each stop has moved it one server on.
use Rattle.std.proofs.Common.{◌≡◌, ℕ, ◌+◌, ◌<◌, ◌%◌, List, [], ◌∷◌, Option, Some, None, length, refl, sym, ap, subst, ◌∙◌, arith}
use Rattle.std.specs.Prelude.{slice_get, option_map, IfSome}
use Rattle.std.proofs.lemmas.Nat.{mod_below}
use Rattle.std.proofs.lemmas.Option.{same_Some, slice_get_within}
use Rattle.std.proofs.Math.Nat.{mod-add-mod, mod-eq_of_lt}
use Rattle.fs_base.specs.Config.{Settings}
use Rattle.fs_base.specs.declared.call.Request.{Request}
use Rattle.txn_task.specs.declared.outcome.Outcome.{Outcome}
use Rattle.path_walk.specs.Requests.{IsRequest}
use Rattle.client_core.specs.Client.{ClientView, answered_on, client_step, end_call, new_client, fd_at, next_request, send, send_again, sent_to, server_after, FitsClient}
use Rattle.client_core.specs.Files.{AreDescriptorsSound, IsFileSound}
use Rattle.client_core.specs.Moved.{IsAtPlace, IsInScript, IsUnderWay, server_after_stops}
use Rattle.client_core.specs.Ops.{request_of, session_for}
use Rattle.client_core.specs.Plans.{IsScript}
use Rattle.client_core.specs.declared.messages.ClientAnswer.{ClientAnswer}
use Rattle.client_core.specs.declared.messages.ClientAnswer.TheVariants as answers
use Rattle.client_core.specs.declared.descriptors.Descriptor.{Descriptor}
use Rattle.client_core.specs.declared.plan.Op.{Op}
use Rattle.client_core.specs.declared.plan.Script.{Script}
use Rattle.client_core.proofs.Files.{answered_sound}

-- ---- servers

pub after_below : (C : Settings) (server : ℕ) → server < C.servers → server_after C server < C.servers
after_below C server l = mod_below (server + 1) C.servers (omega arith)

pub moved_below : (C : Settings) (server : ℕ) (stops : List ℕ) → server < C.servers → server_after_stops C server stops < C.servers
moved_below C server [] l = l
moved_below C server (stop ∷ stops) l = moved_below C (server_after C server) stops (after_below C server l)

-- one server on for each stop
pub moved_count : (C : Settings) (server : ℕ) (stops : List ℕ) → server < C.servers → server_after_stops C server stops ≡ (server + length stops) % C.servers
moved_count C server [] l =
    let same : server + 0 ≡ server = omega arith in
    sym (mod-eq_of_lt l) ∙ ap (λ n. n % C.servers) (sym same)
moved_count C server (stop ∷ stops) l =
    let same : server + 1 + length stops ≡ server + length (stop ∷ stops) = omega arith in
    moved_count C (server_after C server) stops (after_below C server l)
    ∙ (mod-add-mod (server + 1) C.servers (length stops) ∙ ap (λ n. n % C.servers) same)

-- ---- steps

pub in_script_new : (C : Settings) (script : Script) → IsScript C.servers script → IsInScript (new_client C script)
in_script_new C script is = record { script = is; server = is.home; place = (omega arith, refl) }

pub in_script_send : (c : ClientView) (o : Option Op) → o ≡ slice_get c.script.ops c.op → IsInScript c → c.request ≡ None → IsInScript (send c o).0
in_script_send c None there h none = h
in_script_send c (Some step) there h none =
    let at : IsAtPlace c None = subst (IsAtPlace c) none h.place in
    let next : c.number + 1 ≡ c.op + 1 = ap (λ n. n + 1) at.1 in
    record { script = h.script; server = h.server; place = (step, sym there, ap (λ n. request_of c.script.id c.server n (session_for c.descriptors step) step) next, next) }

pub in_script_end : (c : ClientView) (server : ℕ) (outcome : Outcome) (o : Option Request) → o ≡ c.request → IsInScript c → IsInScript (end_call c server outcome o).0
in_script_end c server outcome None is h = h
in_script_end c server outcome (Some request) is h =
    let at : IsAtPlace c (Some request) = subst (IsAtPlace c) (sym is) h.place in
    let within : c.op < length c.script.ops = slice_get_within c.script.ops c.op at.0 at.1 in
    record { script = h.script; server = h.server; place = (omega arith, at.3) }

pub in_script_again : (c : ClientView) (stop : ℕ × ℕ) (o : Option Request) → o ≡ c.request → IsInScript c → IsInScript (send_again c stop o).0
in_script_again c stop None is h = h
in_script_again c stop (Some request) is h =
    let at : IsAtPlace c (Some request) = subst (IsAtPlace c) (sym is) h.place in
    record {
      script = h.script;
      server = after_below c.config c.server h.server;
      place = (at.0, at.1, ap (λ (q : Request). sent_to q (server_after c.config c.server)) at.2, at.3);
    }

idle_by : (o : Option Request) (answer : ClientAnswer) → FitsClient o answer → (answer ≡ answers.Start → o ≡ None) × (answer ≡ answers.Next → o ≡ None)
idle_by None answer fits = (λ e. refl, λ e. refl)
idle_by (Some request) answers.Start fits = absurd fits
idle_by (Some request) answers.Next fits = absurd fits
idle_by (Some request) (answers.Replied server outcome) fits = (λ e. absurd (cc), λ e. absurd (cc))
idle_by (Some request) (answers.Gone server stop) fits = (λ e. absurd (cc), λ e. absurd (cc))

pub in_script_step : (c : ClientView) (answer : ClientAnswer) → IsInScript c → FitsClient c.request answer → IsInScript (client_step c answer).0
in_script_step c (answers.Replied server outcome) h fits = in_script_end c server outcome c.request refl h
in_script_step c (answers.Gone server stop) h fits = in_script_again c (server, stop) c.request refl h
in_script_step c answers.Start h fits = in_script_send c (slice_get c.script.ops c.op) refl h ((idle_by c.request answers.Start fits).0 refl)
in_script_step c answers.Next h fits = in_script_send c (slice_get c.script.ops c.op) refl h ((idle_by c.request answers.Next fits).1 refl)

-- a client is under way once it has sent
pub under_way_sent : (c : ClientView) (request : Request) → IsUnderWay c → c.request ≡ None → Some request ≡ option_map (next_request c) (slice_get c.script.ops c.op) → IsRequest c.config request
    → IsUnderWay (record c { number = c.number + 1; request = Some request })
under_way_sent c request h none is valid = of (slice_get c.script.ops c.op) refl is
  where
    of : (o : Option Op) → slice_get c.script.ops c.op ≡ o → Some request ≡ option_map (next_request c) o → IsUnderWay (record c { number = c.number + 1; request = Some request })
    of None there e = absurd (cc)
    of (Some step) there e =
        let request_is : next_request c step ≡ request = sym (same_Some request (next_request c step) e) in
        record {
          in_script = subst (λ (q : Request). IsInScript (record c { number = c.number + 1; request = Some q })) request_is (in_script_send c (Some step) (sym there) h.in_script none);
          valid = valid;
          files = h.files;
        }

-- and once it was answered
pub under_way_ended : (c : ClientView) (server : ℕ) (outcome : Outcome) → IsFileSound c.config outcome.reply → IsUnderWay c → IsUnderWay (end_call c server outcome c.request).0
under_way_ended c server outcome file h =
    record {
      in_script = in_script_end c server outcome c.request refl h.in_script;
      valid = valid c.request h.valid;
      files = files c.request;
    }
  where
    valid : (o : Option Request) → IfSome o (IsRequest c.config) → IfSome (end_call c server outcome o).0.request (IsRequest (end_call c server outcome o).0.config)
    valid None v = h.valid
    valid (Some request) v = tt

    files : (o : Option Request) → AreDescriptorsSound (end_call c server outcome o).0.config (end_call c server outcome o).0.descriptors
    files None = h.files
    files (Some request) = answered_sound c.config c.descriptors (fd_at c.script.ops c.op) request outcome file h.files

-- what a client is once it was answered, by its parts
pub answered_is : (c : ClientView) (server : ℕ) (outcome : Outcome) (request : Request) (descriptors : List (Option Descriptor)) (gone : List (ℕ × ℕ)) → c.request ≡ Some request → descriptors ≡ answered_on c request outcome → gone ≡ []
    → record c { op = c.op + 1; descriptors = descriptors; gone = gone; request = None } ≡ (end_call c server outcome c.request).0
answered_is c server outcome request descriptors gone is kept none =
    ap (λ (d : List (Option Descriptor)). record c { op = c.op + 1; descriptors = d; gone = gone; request = None }) kept
    ∙ (ap (λ (g : List (ℕ × ℕ)). record c { op = c.op + 1; descriptors = answered_on c request outcome; gone = g; request = None }) none ∙ ap (λ (o : Option Request). (end_call c server outcome o).0) (sym is))
