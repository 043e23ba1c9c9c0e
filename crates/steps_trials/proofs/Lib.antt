mod Heating
mod Lighting
mod Orders
mod Radio
mod Refusals
mod StartUp
mod Values
