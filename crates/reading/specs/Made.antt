-- What the code of the receiving half hands back: the fields of protocol's readings. Assumes nothing.
use Rattle.protocol.specs.Opened.{Reading}
use Rattle.reading.specs.declared.ReadingMade.{ReadingMade}

abbrev pub reading_made : Reading → ReadingMade
reading_made r = record { inbound = r.inbound; delivered = r.delivered }
