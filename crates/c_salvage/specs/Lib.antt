pub mod SalvagedStruct
