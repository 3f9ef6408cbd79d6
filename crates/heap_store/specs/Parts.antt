-- The heap that has these parts.
use Rattle.std.specs.Prelude.{false}
use Rattle.heap_store.specs.declared.parts.Parts.{Parts}
use Rattle.heap_store.specs.HeapView.{HeapView}

-- it has not failed
abbrev pub seen_parts : Parts → HeapView
seen_parts p = record {
  failed = false;
  last = p.last;
  territories = p.territories.items;
  registers = p.registers.items;
  locks = p.locks;
  notes = p.notes;
  registry = p.registry;
  thread = p.thread;
  collects = p.collects;
  oldest = p.generations;
  version = p.version;
}
