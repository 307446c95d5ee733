mod AxisLaws
mod CountLaws
mod EscapeLaws
mod FullestLaws
mod KeptLaws
mod LoadLaws
mod MarkLaws
mod RangeLaws
mod SectionLaws
pub mod SomeChart
mod StrokeLaws
mod Worked
