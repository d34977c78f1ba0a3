-- What the draft of a whole text makes is what the text says.
use Rattle.std.proofs.Common.{◌≡◌, ℕ, List, Result, Ok, Err, sym, ap, ◌∙◌, subst, length, get_or, false}
use Rattle.std.specs.Prelude.{IfOk}
use Rattle.std.proofs.lemmas.List.{length-map}
use Rattle.outage_rules.specs.Loops.{first_loop}
use Rattle.grid_model.specs.declared.parts.NodeId.{NodeId}
use Rattle.grid_model.specs.declared.parts.Device.{Device}
use Rattle.grid_model.specs.declared.parts.Meter.{Meter}
use Rattle.grid_model.specs.Parts.{Parts}
use Rattle.grid_model.specs.Network.{network_in}
use Rattle.grid_model.specs.Sound.{IsSoundParts}
use Rattle.grid_reader.specs.declared.row.Row.{Row}
use Rattle.grid_reader.specs.declared.draft.Draft.{Draft}
use Rattle.grid_reader.specs.Network.{parts_of, devices_of}
use Rattle.grid_reader.specs.Text.{Rows, unless_looped, grid_of_reading, IsGrid, grid_text}
use Rattle.grid_reader.specs.Opened.{opened, opened_parts, states_of}
use Rattle.grid_reader.specs.Draft.{IsDraftOf}
use Rattle.grid_reader.specs.Reader.{IsDraftOfText}
use Rattle.grid_reader.specs.Start.{started_in, parts_in, IsComplete}
use Rattle.event_rules.specs.Lines.{lines}
use Rattle.grid_reader.proofs.Legal.{rows_are_legal}
use Rattle.grid_reader.proofs.Opened.{opened_network}
use Rattle.grid_reader.proofs.AlmostSound.{opened_is_sound, restarted}
use Rattle.grid_reader.proofs.SoundRows.{rows_are_sound}

abbrev parts_by : List (List ℕ) → List NodeId → List Device → List Meter → List ℕ → Parts
parts_by nodes sources devices meters settings = record { nodes = nodes; sources = sources; devices = devices; meters = meters; settings = settings }

-- the draft has the parts of its rows, with every device open
parts_held : (rows : List Row) (device_lines : List ℕ) (draft : Draft) → IsDraftOf rows device_lines draft → parts_in draft ≡ opened_parts (parts_of rows)
parts_held rows device_lines draft h =
    let g = opened_parts (parts_of rows) in
    ap (λ nodes. parts_by nodes draft.sources.items draft.devices.items draft.meters.items draft.settings) h.nodes
    ∙ ap (λ sources. parts_by g.nodes sources draft.devices.items draft.meters.items draft.settings) h.sources
    ∙ ap (λ devices. parts_by g.nodes g.sources devices draft.meters.items draft.settings) h.devices
    ∙ ap (λ meters. parts_by g.nodes g.sources g.devices meters draft.settings) h.meters
    ∙ ap (λ settings. parts_by g.nodes g.sources g.devices g.meters settings) h.settings

-- started, they make the network that the rows say
started_held : (rows : List Row) (device_lines : List ℕ) (next : ℕ) (draft : Draft) → IsDraftOf rows device_lines draft
    → started_in (parts_in draft) draft.closed.items draft.device_lines.items ≡ grid_of_reading (Rows rows device_lines next)
started_held rows device_lines next draft h =
    let g = parts_of rows in
    let states = states_of (devices_of rows) in
    ap (λ p. started_in p draft.closed.items draft.device_lines.items) (parts_held rows device_lines draft h)
    ∙ ap (λ closed. started_in (opened_parts g) closed draft.device_lines.items) h.closed
    ∙ ap (λ ls. started_in (opened_parts g) states ls) h.device_lines
    ∙ ap (λ p. unless_looped p device_lines (first_loop (network_in (opened_parts g) (λ d. get_or states d false)))) (restarted g)
    ∙ ap (λ net. unless_looped g device_lines (first_loop net)) (opened_network g)

-- the draft of a text makes what the text says
pub text_started : (text : List ℕ) (draft : Draft) → IsDraftOfText text draft → started_in (parts_in draft) draft.closed.items draft.device_lines.items ≡ grid_text text
unfolding grid_text
text_started text draft k = started_held k.rows k.device_lines k.next draft k.held ∙ ap grid_of_reading (sym k.reading)

-- and is complete
pub text_complete : (text : List ℕ) (draft : Draft) → IsDraftOfText text draft → IsComplete draft
text_complete text draft k =
    let h = k.held in
    let legal = rows_are_legal (lines text) k.rows k.device_lines k.next k.reading in
    let count : length draft.devices.items ≡ length (devices_of k.rows) = ap length h.devices ∙ length-map (devices_of k.rows) opened in
    record {
      sound = subst IsSoundParts (sym (parts_held k.rows k.device_lines draft h)) (opened_is_sound (parts_of k.rows) (rows_are_sound k.rows legal.0));
      states = ap length h.closed ∙ length-map (devices_of k.rows) (λ (d : Device). d.starts_closed) ∙ sym count;
      lines = ap length h.device_lines ∙ legal.1 ∙ sym count;
    }

-- a network that was made is the one of the text
pub grid_is_read : {E : Type 0} (r : Result Parts E) (text : List ℕ) (draft : Draft) → IsDraftOfText text draft
    → IfOk r (λ g. started_in (parts_in draft) draft.closed.items draft.device_lines.items ≡ IsGrid g) → IfOk r (λ g. grid_text text ≡ IsGrid g)
grid_is_read (Ok g) text draft k e = sym (text_started text draft k) ∙ e
grid_is_read (Err x) text draft k e = tt
